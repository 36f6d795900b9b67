-- The search by rounds, over any transition system and any estimate of the cost that is left, and what is promised of
-- its answers. They know nothing of exercises, of tables or of the code that searches.
pub mod Systems
pub mod OpenLists
pub mod Rounds
pub mod Promises
pub mod Logs
pub mod Thresholds
