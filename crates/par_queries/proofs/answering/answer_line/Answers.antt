-- `par_queries::answering::answer_line` meets its contract.
-- Refused with 1 or 2 by the line itself, or answered by the record that answers its bytes.
use mathlib.Core.Path.{◌≡◌, refl, sym, ap, ◌∙◌, subst}
use mathlib.Core.Bool.{true, false}
use mathlib.Core.List.{List}
use Prim.Native.Nat.{ℕ, ◌+◌, ◌-◌, ◌≤◌}
use native.Mathlib.Omega.{arith}
use lib.ListN.{length, take, drop, replicate}
use lib.Seq.{length-take-le}
use borrow.Author.Rules.{rules}
use borrow.Author.Tests.{not-true, not-false, eq-eqb, ne_eqb}
use Rattle.basics.specs.Lists.{at_front}
use Rattle.basics.proofs.Lists.{front-taken}
use Rattle.blocks.specs.Validity.{Headed}
use Rattle.records.specs.Records.{query_length, answer_record, Written}
use Rattle.records.proofs.RecordLaws.{written-fits, written-taken}
use Rattle.frames.specs.Lines.{line_ok, line_bytes, line_of}
use Rattle.frames.specs.Places.{line_from, line_at}
use Rattle.frames.specs.declared.lines.Line.{Line}
use Rattle.frames.proofs.LineLaws.{line-part, line-inside, line-there}
use Rattle.frames.proofs.PairLaws.{line-length}
use Rattle.par_queries.specs.QueryLines.{filled_estimate, refusal_line, answer_line, AnsweredAt}
use Rattle.par_queries.proofs.PrintedLines.{line_of_lem}
use Rattle.par_queries.proofs.QueryLineLaws.{line-decided, line_refused, line-accepted}
use Rattle.par_queries.proofs.answering.answer_line.Goals as goal

-- the query line of the block b at a place of the input x, and what the reader tells of it
module _ (b x : List ℕ) (at : ℕ) (found : Line) (is : found ≡ line_at x at) where
  abbrev line : List ℕ
  line = line_from x at

  right : found.ok ≡ line_ok line
  right = ap (λ (l : Line). l.ok) is

  counted : found.bytes ≡ length (line_bytes line)
  counted = ap (λ (l : Line). l.bytes) is

  onward : found.next ≡ at + length line
  onward = ap (λ (l : Line). l.next) is

  -- what the call gives, where this line is written
  gives :
      (old shown new : List ℕ) (n : ℕ) → answer_line b line ≡ shown → Written shown old n new
      → AnsweredAt b x at old (record { bytes = n; next = found.next }) new
  gives old shown new n e w =
      record { written = subst (λ (l : List ℕ). Written l old n new) (sym e) w; onward = onward }

  unread : found.ok ≡ false → answer_line b line ≡ refusal_line 1
  unread h = line_refused b line 1 (line-decided b line _ _ (sym right ∙ h) refl)

  -- the line is right
  module _ (ok : found.ok ≡ true) where
    good : line_ok line ≡ true
    good = sym right ∙ ok

    other : (n : ℕ) → n ≡ query_length b → (found.bytes ≡ n → ⊥) → answer_line b line ≡ refusal_line 2
    other n e h =
        let wrong = ne_eqb (length (line_bytes line)) (query_length b) (λ f. h (counted ∙ f ∙ sym e)) in
        line_refused b line 2 (line-decided b line _ _ good wrong)

    inside : found.next ≤ length x
    inside =
        let there = line-there x at good in
        omega (arith, onward, line-inside x at (omega arith))

    -- the part that is decoded
    abbrev part : List ℕ
    part = take (found.next - at) (drop at x)

    -- it is the line
    decoded : line_bytes part ≡ line_bytes line
    decoded =
        let e : found.next - at ≡ length line = omega (arith, onward) in
        ap line_bytes (ap (λ (k : ℕ). take k (drop at x)) e ∙ line-part x at)

    -- it has a query's length
    module _ (headed : Headed b) (n : ℕ) (e : n ≡ query_length b) (same : found.bytes ≡ n) where
      long : length (line_bytes line) ≡ query_length b
      long = sym counted ∙ same ∙ e

      short : length (line_bytes line) ≤ 25
      short = omega (arith, long, headed.sizes.n_high)

      -- it is answered by its bytes
      settled : answer_line b line ≡ line_of (answer_record b (filled_estimate b) (line_bytes line))
      settled =
          let fits = eq-eqb (length (line_bytes line)) (query_length b) long in
          line-accepted b line (line-decided b line _ _ good fits)

      -- its bytes stand at the front of a buffer
      module _
          (m : ℕ) (query : List ℕ)
          (w : (m ≡ length (line_bytes part)) × (query ≡ at_front (line_bytes part) (replicate 25 0)))
        where
          count : m ≡ length (line_bytes line)
          count = w.0 ∙ ap length decoded

          asked : take m query ≡ line_bytes line
          asked =
              let room : List ℕ = replicate 25 0 in
              ap (take m) (w.1 ∙ ap (λ (l : List ℕ). at_front l room) decoded)
              ∙ front-taken (line_bytes line) room m count

          answered :
              (k : ℕ) (answer : List ℕ)
              → Written (answer_record b (filled_estimate b) (take m query)) (replicate 75 0) k answer
              → take k answer ≡ answer_record b (filled_estimate b) (line_bytes line)
          answered k answer written = written-taken written ∙ ap (answer_record b (filled_estimate b)) asked

pub returns-then-not-found : goal.returns-then-not-found
returns-then-not-found c =
    let wrong = not-true _ c.if-not-found.true in
    let x = c.args.input.now in
    gives c.args.block.now x c.args.at _ c.read_line-found.ensures _ _ _ _
    (unread c.args.block.now x c.args.at _ c.read_line-found.ensures wrong) c.refuse-bytes.ensures

pub returns-then-found-query_length : goal.returns-then-found-query_length
returns-then-found-query_length c =
    let x = c.args.input.now in
    let b = c.args.block.now in
    let ok = not-false _ c.if-not-found.false in
    gives b x c.args.at _ c.read_line-found.ensures _ _ _ _
    (other b x c.args.at _ c.read_line-found.ensures ok _ c.query_length.ensures.0 c.if-found-query_length.true)
    c.refuse-bytes-then-found-query_length.ensures

pub slice_bounds-decode_line-count : goal.slice_bounds-decode_line-count
slice_bounds-decode_line-count c =
    omega (arith, onward c.args.block.now c.args.input.now c.args.at _ c.read_line-found.ensures)

pub slice_bounds-decode_line-start : goal.slice_bounds-decode_line-start
slice_bounds-decode_line-start c =
    omega (arith, onward c.args.block.now c.args.input.now c.args.at _ c.read_line-found.ensures)

pub slice_bounds-decode_line-end : goal.slice_bounds-decode_line-end
slice_bounds-decode_line-end c =
    let ok = not-false _ c.if-not-found.false in
    let i = inside c.args.block.now c.args.input.now c.args.at _ c.read_line-found.ensures ok in
    omega (arith, onward c.args.block.now c.args.input.now c.args.at _ c.read_line-found.ensures, i)

pub decode_line-asked-requires : goal.decode_line-asked-requires
decode_line-asked-requires c =
    let b = c.args.block.now in
    let x = c.args.input.now in
    let found = c.read_line-found.ensures in
    let ok = not-false _ c.if-not-found.false in
    let headed = c.requires.0.compiled.valid.sized.headed in
    let few = short b x c.args.at _ found ok headed _ c.query_length.ensures.0 c.if-found-query_length.false in
    omega (arith, ap length (decoded b x c.args.at _ found ok), few)

pub answer_query-count-requires : goal.answer_query-count-requires
answer_query-count-requires c =
    let b = c.args.block.now in
    let x = c.args.input.now in
    let found = c.read_line-found.ensures in
    let ok = not-false _ c.if-not-found.false in
    let headed = c.requires.0.compiled.valid.sized.headed in
    let n = c.query_length.ensures.0 in
    let same = c.if-found-query_length.false in
    let bytes = asked b x c.args.at _ found ok headed _ n same _ _ c.decode_line-asked.ensures in
    (c.requires.0, ap length bytes ∙ long b x c.args.at _ found ok headed _ n same, search rules)

pub slice_bounds-answer-end : goal.slice_bounds-answer-end
slice_bounds-answer-end c =
    let w = c.answer_query-count.ensures (filled_estimate c.args.block.now) c.requires.1 in
    omega (arith, written-fits w, c.answer_query-count.auto.out)

pub slice_bounds-encode_line-end : goal.slice_bounds-encode_line-end
slice_bounds-encode_line-end c =
    let w = c.answer_query-count.ensures (filled_estimate c.args.block.now) c.requires.1 in
    sym (length-take-le c.answer_query-count.result c.answer_query-count.new.out (written-fits w))

pub encode_line-bytes-requires : goal.encode_line-bytes-requires
encode_line-bytes-requires c =
    let w = c.answer_query-count.ensures (filled_estimate c.args.block.now) c.requires.1 in
    let told = take c.answer_query-count.result c.answer_query-count.new.out in
    let long = length-take-le c.answer_query-count.result c.answer_query-count.new.out (written-fits w) in
    omega (arith, line-length told, long, written-fits w, c.answer_query-count.auto.out, c.requires.2)

pub returns : goal.returns
returns c =
    let b = c.args.block.now in
    let x = c.args.input.now in
    let found = c.read_line-found.ensures in
    let ok = not-false _ c.if-not-found.false in
    let headed = c.requires.0.compiled.valid.sized.headed in
    let n = c.query_length.ensures.0 in
    let same = c.if-found-query_length.false in
    let w = c.answer_query-count.ensures (filled_estimate b) c.requires.1 in
    let told = answered b x c.args.at _ found ok headed _ n same _ _ c.decode_line-asked.ensures _ _ w in
    gives b x c.args.at _ found _ _ _ _ (settled b x c.args.at _ found ok headed _ n same)
    (line_of_lem c.encode_line-bytes.ensures told)
