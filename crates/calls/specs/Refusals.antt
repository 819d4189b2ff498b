-- The numbers of refusals: document 01, 'Causes of refusal', and those that document 02 adds.
use Rattle.std.specs.Prelude.{ℕ, Result, Ok, Err}
use Rattle.calls.specs.declared.Refusal.{Refusal}
use Rattle.calls.specs.declared.Refusal.TheVariants.{StringLength, Threshold, Expander, Lengths, TooManyReports, PayloadTooLarge, SpareBits, SharesDiffer, Query, Text, NoSpace, WeightedThreshold, Nodes, NoParent}

-- the number of a refusal
abbrev pub number_of : Refusal → ℕ
number_of StringLength = 1
number_of Threshold = 2
number_of Expander = 3
number_of Lengths = 4
number_of TooManyReports = 5
number_of PayloadTooLarge = 6
number_of SpareBits = 7
number_of SharesDiffer = 8
number_of Query = 9
number_of Text = 10
number_of NoSpace = 11
number_of WeightedThreshold = 12
number_of Nodes = 13
number_of NoParent = 14

-- the number of what a call returned: that of its refusal, or 0
abbrev pub number_in : {A : Type 0} → Result A Refusal → ℕ
number_in (Ok _) = 0
number_in (Err refusal) = number_of refusal
