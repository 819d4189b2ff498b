-- XOR undoes itself, on numbers and on byte strings of one length, and keeps their length.
use Rattle.std.proofs.Common.{◌≡◌, ℕ, zero, suc, ◌+◌, ◌*◌, ◌/◌, ◌%◌, ◌<◌, List, [], ◌∷◌, length, get_or, sym, refl, ap, ◌∙◌, ap₂, mod-lt, zero-lt-suc, div-add-mod', suc-ne-zero, arith}
use native.Mathlib.Nat.{suc_inj}
use lib.Arith.{bin_ind}
use lib.Bits.{bit_xor, differ, xor_step, xor_shr, xor_mod, xor_comm, xor_lt}
use Rattle.places.specs.Places.{Bytes}
use Rattle.expander.specs.Expander.{xor_bytes}

digit : (x y : ℕ) → x < 2 → y < 2 → differ x (bit_xor x y) ≡ y
digit zero y hx hy = refl
digit (suc zero) zero hx hy = refl
digit (suc zero) (suc zero) hx hy = refl
digit (suc zero) (suc (suc y)) hx hy = absurd (omega arith)
digit (suc (suc x)) y hx hy = absurd (omega arith)

pub xor_cancel : (a b : ℕ) → bit_xor a (bit_xor a b) ≡ b
xor_cancel = bin_ind (λ (n : ℕ). (b : ℕ) → bit_xor n (bit_xor n b) ≡ b) (λ b. refl)
    (λ n ih b. xor_step n (bit_xor n b)
    ∙ ap₂ (λ (x y : ℕ). bit_xor (n / 2) x * 2 + differ (n % 2) y) (xor_shr n b 1) (xor_mod n b 1)
    ∙ ap₂ (λ (x y : ℕ). x * 2 + y) (ih (b / 2)) (digit (n % 2) (b % 2) (mod-lt n (zero-lt-suc 1)) (mod-lt b (zero-lt-suc 1)))
    ∙ div-add-mod' b 2)

pub xor_bytes_comm : (xs ys : List ℕ) → xor_bytes xs ys ≡ xor_bytes ys xs
unfolding xor_bytes
xor_bytes_comm [] [] = refl
xor_bytes_comm [] (y ∷ ys) = refl
xor_bytes_comm (x ∷ xs) [] = refl
xor_bytes_comm (x ∷ xs) (y ∷ ys) = ap₂ ◌∷◌ (xor_comm x y) (xor_bytes_comm xs ys)

pub xor_bytes_cancel : (xs ys : List ℕ) → length xs ≡ length ys → xor_bytes xs (xor_bytes xs ys) ≡ ys
unfolding xor_bytes
xor_bytes_cancel [] [] e = refl
xor_bytes_cancel [] (y ∷ ys) e = absurd (omega arith)
xor_bytes_cancel (x ∷ xs) [] e = absurd (omega arith)
xor_bytes_cancel (x ∷ xs) (y ∷ ys) e = ap₂ ◌∷◌ (xor_cancel x y) (xor_bytes_cancel xs ys (omega arith))

pub xor_bytes_cancel' : (xs ys : List ℕ) → length xs ≡ length ys → xor_bytes ys (xor_bytes xs ys) ≡ xs
xor_bytes_cancel' xs ys e = rw (xor_bytes_comm xs ys) (xor_bytes_cancel ys xs (sym e))

xor_bytes_length : (xs ys : List ℕ) → length xs ≡ length ys → length (xor_bytes xs ys) ≡ length ys
unfolding xor_bytes
xor_bytes_length [] [] e = refl
xor_bytes_length [] (y ∷ ys) e = absurd (omega arith)
xor_bytes_length (x ∷ xs) [] e = absurd (omega arith)
xor_bytes_length (x ∷ xs) (y ∷ ys) e = ap suc (xor_bytes_length xs ys (omega arith))

xor_bytes_byte : (xs ys : List ℕ) → ((i : ℕ) → get_or xs i 0 < 256) → ((i : ℕ) → get_or ys i 0 < 256) → (i : ℕ) → get_or (xor_bytes xs ys) i 0 < 256
unfolding xor_bytes
xor_bytes_byte [] ys hx hy i = omega arith
xor_bytes_byte (x ∷ xs) [] hx hy i = omega arith
xor_bytes_byte (x ∷ xs) (y ∷ ys) hx hy zero = xor_lt 8 x y (hx 0) (hy 0)
xor_bytes_byte (x ∷ xs) (y ∷ ys) hx hy (suc i) = xor_bytes_byte xs ys (λ j. hx (suc j)) (λ j. hy (suc j)) i

-- n bytes stay n bytes
pub xor_bytes_bytes : {n : ℕ} {xs ys : List ℕ} → Bytes n xs → Bytes n ys → Bytes n (xor_bytes xs ys)
xor_bytes_bytes {n} {xs} {ys} h k =
    record { size = xor_bytes_length xs ys (h.size ∙ sym k.size) ∙ k.size; byte = xor_bytes_byte xs ys h.byte k.byte }

-- f i, f (i + 1), .. : n numbers
abbrev pub from : ℕ → ℕ → (ℕ → ℕ) → List ℕ
from zero i f = []
from (suc n) i f = f i ∷ from n (suc i) f

from_suc : (n i : ℕ) (f : ℕ → ℕ) → from n (suc i) f ≡ from n i (λ k. f (suc k))
from_suc zero i f = refl
from_suc (suc n) i f = ap {B = List ℕ} (λ (l : List ℕ). f (suc i) ∷ l) (from_suc n (suc i) f)

-- byte by byte
pub xor_bytes_from : (n : ℕ) (xs ys : List ℕ) → length xs ≡ n → length ys ≡ n → from n 0 (λ i. bit_xor (get_or xs i 0) (get_or ys i 0)) ≡ xor_bytes xs ys
unfolding xor_bytes
xor_bytes_from zero [] ys h k = refl
xor_bytes_from zero (x ∷ xs) ys h k = absurd (suc-ne-zero _ h)
xor_bytes_from (suc n) [] ys h k = absurd (suc-ne-zero _ (sym h))
xor_bytes_from (suc n) (x ∷ xs) [] h k = absurd (suc-ne-zero _ (sym k))
xor_bytes_from (suc n) (x ∷ xs) (y ∷ ys) h k =
    ap {B = List ℕ} (λ (l : List ℕ). bit_xor x y ∷ l)
    (from_suc n 0 (λ i. bit_xor (get_or (x ∷ xs) i 0) (get_or (y ∷ ys) i 0)) ∙ xor_bytes_from n xs ys (suc_inj h) (suc_inj k))
