-- Both expanders with the group modulo p are lawful, and what the theorems say there.
use mathlib.Core.Path.{◌≡◌}
use mathlib.Core.Bool.{true, false, cond}
use mathlib.Core.List.{List}
use Prim.Native.Nat.{ℕ, ◌+◌, ◌%◌, ◌^◌, ◌<◌, ◌≤◌}
use native.Mathlib.Nat.{mod-lt}
use native.Mathlib.Omega.{arith}
use lib.ListN.{length}
use Rattle.places.specs.Places.{Bytes}
use Rattle.bits.specs.Strings.{Bits, is_prefix}
use Rattle.group.specs.Modular.{modulus}
use Rattle.group.proofs.Modular.{field_laws}
use Rattle.expander.specs.declared.Expander.{Expander}
use Rattle.expander.proofs.Sized.{block_bytes}
use Rattle.point.specs.Scheme.{Lawful}
use Rattle.point.specs.Keys.{key_correction}
use Rattle.point.specs.Evaluation.{bit_of, share_at}
use Rattle.point.specs.Instance.{field_scheme, scheme}
use Rattle.point.proofs.Prefix.{prefix_correct}

-- any block function that gives 16 bytes for 16 bytes
pub field_lawful : (block : List ℕ → ℕ → List ℕ) → ((s : List ℕ) → Bytes 16 s → (j : ℕ) → Bytes 16 (block s j)) →
    Lawful ℕ (field_scheme block) (λ x. x < modulus)
unfolding field_scheme
field_lawful block sized = record { laws = field_laws; sized = sized; in_payload = λ f. mod-lt _ (omega arith) }

pub scheme_lawful : (e : Expander) → Lawful ℕ (scheme e) (λ x. x < modulus)
scheme_lawful e = field_lawful _ (block_bytes e)

-- a group number fits 64 bits
pub p_fits : modulus ≤ 2 ^ 64
p_fits = omega arith

-- key correctness
pub scheme_correct : (e : Expander) (w : ℕ) → w < modulus → (s0 s1 : List ℕ) → Bytes 16 s0 → Bytes 16 s1 →
    (α q : Bits) → 0 < length q → length q ≤ length α → let c = key_correction (scheme e) w (bit_of α) s0 s1 in
    (share_at (scheme e) c s0 false q + share_at (scheme e) c s1 true q) % modulus ≡ cond (is_prefix q α) w 0
unfolding field_scheme
scheme_correct e = prefix_correct (scheme e) (scheme_lawful e)
