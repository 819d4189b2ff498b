-- What a call wrote from the beginning of a space on is no longer than that space; and what it returned and left there, part by part.
use Prim.Native.Nat.{ℕ, ◌≤◌}
use native.Mathlib.Omega.{arith}
use mathlib.Core.Path.{◌≡◌, refl}
use mathlib.Core.List.{List}
use lib.ListN.{length, drop, length-append}
use Rattle.std.specs.Prelude.{Result, Ok, Err}
use Rattle.std.specs.Result.{result_unwrap_or}
use Rattle.places.specs.Places.{overlay}
use Rattle.calls.specs.Outcome.{answered}
use Rattle.calls.specs.declared.Refusal.{Refusal}

pub inside : (k : ℕ) (vs l after : List ℕ) → k ≡ length vs → after ≡ overlay vs l → k ≤ length after
unfolding overlay
inside k vs l after long same = rw same (omega (arith, length-append vs (drop (length vs) l)))

-- the space that a call leaves, whatever it returns, and how many bytes it wrote, none where it refuses
pub area_left : (r : Result ℕ Refusal) (area : List ℕ) → area ≡ (answered r area).area
area_left (Ok n) area = refl
area_left (Err e) area = refl

pub length_left : (r : Result ℕ Refusal) (area : List ℕ) → result_unwrap_or r 0 ≡ (answered r area).length
length_left (Ok n) area = refl
length_left (Err e) area = refl
