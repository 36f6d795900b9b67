-- Parts of lists of bytes are lists of bytes (`bytes_take`, `bytes_drop`), and so are two behind one another
-- (`bytes-append`). Reading and writing exercises as text rests on these.
use mathlib.Core.List.{List, [], ◌∷◌, ◌++◌}
use Prim.Native.Nat.{ℕ, zero, suc}
use native.Mathlib.Omega.{arith}
use lib.ListN.{take, drop}
use Rattle.basics.specs.Lists.{Bytes}

pub bytes_take : (n : ℕ) (x : List ℕ) → Bytes x → Bytes (take n x)
bytes_take zero x small i = omega arith
bytes_take (suc n) [] small i = small i
bytes_take (suc n) (b ∷ x) small zero = small 0
bytes_take (suc n) (b ∷ x) small (suc i) = bytes_take n x (λ j. small (suc j)) i

pub bytes_drop : (n : ℕ) (x : List ℕ) → Bytes x → Bytes (drop n x)
bytes_drop zero x small = small
bytes_drop (suc n) [] small = small
bytes_drop (suc n) (b ∷ x) small = bytes_drop n x (λ j. small (suc j))

pub bytes-append : (x y : List ℕ) → Bytes x → Bytes y → Bytes (x ++ y)
bytes-append [] y p q i = q i
bytes-append (b ∷ x) y p q zero = p 0
bytes-append (b ∷ x) y p q (suc i) = bytes-append x y (λ j. p (suc j)) q i
