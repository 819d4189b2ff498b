-- A number is an expander's exactly when it names one, and names none exactly when it is neither 1 nor 2.
use Rattle.std.proofs.Common.{◌≡◌, ℕ, Bool, true, false, cond, not, ◌||◌, T, eqb, ◌≢◌, refl, arith, T_not, ne_eqb, Some, None}
use Rattle.expander.specs.Expander.{is_expander, choice_of}
use Rattle.expander.specs.declared.Expander.{Expander}
use Rattle.expander.specs.declared.Expander.TheVariants.{Aes, Classroom}

pub known : (e : ℕ) (x : Expander) → choice_of e ≡ Some x → is_expander e ≡ true
known e x = go (eqb e 1) (eqb e 2)
  where
    go : (a b : Bool) → cond a (Some Aes) (cond b (Some Classroom) None) ≡ Some x → (a || b) ≡ true
    go true b h = refl
    go false true h = refl
    go false false h = let z : ◌≡◌ {A = ℕ} 0 1 = cc in absurd (omega arith)

pub unknown : (e : ℕ) → choice_of e ≡ None → is_expander e ≡ false
unknown e = go (eqb e 1) (eqb e 2)
  where
    go : (a b : Bool) → cond a (Some Aes) (cond b (Some Classroom) None) ≡ None → (a || b) ≡ false
    go true b h = let z : ◌≡◌ {A = ℕ} 0 1 = cc in absurd (omega arith)
    go false true h = let z : ◌≡◌ {A = ℕ} 0 1 = cc in absurd (omega arith)
    go false false h = refl

-- the test of cause 3 and its clause
pub unnamed : (e : ℕ) → T (not (is_expander e)) → (e ≢ 1) × (e ≢ 2)
unnamed e t = (λ q. T_not (is_expander e) t (rw q tt), λ q. T_not (is_expander e) t (rw q tt))

pub unnamed_test : (e : ℕ) → (e ≢ 1) × (e ≢ 2) → T (not (is_expander e))
unnamed_test e h = rw (ne_eqb e 1 h.0, ne_eqb e 2 h.1) tt
