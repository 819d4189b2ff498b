-- Reports as their installations made them, each server's share of one, and totals.
use Rattle.std.specs.Prelude.{ℕ, ◌≡◌, Bool, true, false, cond, List, [], ◌∷◌, length}
use Rattle.places.specs.Lists.{select}
use Rattle.bits.specs.Strings.{Bits, is_prefix}
use Rattle.places.specs.Places.{Bytes}
use Rattle.point.specs.Scheme.{Scheme}
use Rattle.point.specs.Correction.{Correction}
use Rattle.point.specs.Keys.{key_correction}
use Rattle.point.specs.Evaluation.{bit_of, share_at}
use Rattle.point.specs.PublicShare.{public_share}

-- A report: its string, the two root seeds and the weight.
pub record Report (A : Type 0) : Type 0 where
  pub string : Bits
  pub seed0 : List ℕ
  pub seed1 : List ℕ
  pub weight : A

-- A report for a search of n bits: a string of n bits, seeds of 16 bytes, a weight of the group.
pub record Made {A : Type 0} (In : A → Type 0) (n : ℕ) (r : Report A) : Type 0 where
  pub bits : length r.string ≡ n
  pub in_group : In r.weight
  pub sized0 : Bytes 16 r.seed0
  pub sized1 : Bytes 16 r.seed1

-- the root seed of server b
abbrev pub root_seed : {A : Type 0} → Bool → Report A → List ℕ
root_seed b r = cond b r.seed1 r.seed0

-- the strings of the reports, in order
abbrev pub strings : {A : Type 0} → List (Report A) → List Bits
strings [] = []
strings (r ∷ rs) = r.string ∷ strings rs

-- the reports whose string has the prefix q
abbrev pub holders : {A : Type 0} → Bits → List (Report A) → List (Report A)
holders q = select (λ r. is_prefix q r.string)

-- the sum of f over a list
unfoldable pub sum_of : {X M : Type 0} → (M → M → M) → M → (X → M) → List X → M
sum_of plus nil f [] = nil
sum_of plus nil f (x ∷ xs) = plus (f x) (sum_of plus nil f xs)

module _ {A : Type 0} (S : Scheme A) where
  -- the report's correction words
  unfoldable pub report_correction : Report A → ℕ → Correction A
  report_correction r = key_correction S r.weight (bit_of r.string) r.seed0 r.seed1

  -- server b's share of a report at the prefix q
  unfoldable pub report_share : Bool → Bits → Report A → A
  report_share b q r = share_at S (report_correction r) (root_seed b r) b q

  -- server b's sum over all reports
  unfoldable pub server_total : Bool → Bits → List (Report A) → A
  server_total b q = sum_of S.group.add S.group.zero (report_share b q)

  -- the total of both servers
  unfoldable pub reports_total : Bits → List (Report A) → A
  reports_total q rs = S.group.add (server_total false q rs) (server_total true q rs)

-- the public share of a report of n bits
unfoldable pub report_public_share : Scheme ℕ → ℕ → Report ℕ → List ℕ
report_public_share S n r = public_share n (report_correction S r)
