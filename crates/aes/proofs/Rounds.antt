-- The key schedule and the rounds of the cipher, step by step.
use mathlib.Core.Path.{◌≡◌, refl, sym, ap, ap₂, ◌∙◌}
use mathlib.Core.List.{List}
use Prim.Native.Nat.{ℕ, ◌+◌}
use native.Mathlib.Numerals.{add-one}
use Rattle.aes.specs.Fips197.{add_round_key, rcon, next_round_key, round_key, round, last_round, rounds, cipher}

-- the next round key
pub next_key : (key : List ℕ) (i : ℕ) {k k' : List ℕ} → k ≡ round_key key i → k' ≡ next_round_key (rcon (i + 1)) k → k' ≡ round_key key (i + 1)
unfolding round_key
next_key key i h e = e ∙ ap₂ next_round_key (ap rcon (add-one i)) h ∙ ap (round_key key) (sym (add-one i))

-- k and s are the round key and the state after i rounds, from the key and the state before the first
pub record Reached (key start k s : List ℕ) (i : ℕ) : Type 0 where
  pub round_key_lem : k ≡ round_key key i
  pub state : s ≡ rounds key start i

pub start : (key s : List ℕ) → Reached key s key s 0
unfolding round_key rounds
start key s = record { round_key_lem = refl; state = refl }

pub next : {key start k s k' s' : List ℕ} {i : ℕ} → Reached key start k s i → k' ≡ next_round_key (rcon (i + 1)) k → s' ≡ round s k'
    → Reached key start k' s' (i + 1)
unfolding rounds
next {key} {start} {i = i} r e f =
    let h = next_key key i r.round_key_lem e in
    record {
      round_key_lem = h;
      state = f ∙ ap₂ round r.state (h ∙ ap (round_key key) (add-one i)) ∙ ap (rounds key start) (sym (add-one i));
    }

-- the cipher, from the round key and the state after 9 rounds
pub last : (block : List ℕ) {key key₀ start k s k' r : List ℕ} {i : ℕ} → key₀ ≡ key → start ≡ add_round_key block key₀ → Reached key₀ start k s i
    → i ≡ 9 → k' ≡ next_round_key (rcon 10) k → r ≡ last_round s k' → r ≡ cipher key block
unfolding cipher round_key
last block {key} {key₀} {start} e g h nine f l =
    l
    ∙ ap₂ last_round (h.state ∙ ap (rounds key₀ start) nine ∙ ap₂ (λ (x y : List ℕ). rounds x y 9) e (g ∙ ap (add_round_key block) e))
    (next_key key 9 (h.round_key_lem ∙ ap₂ round_key e nine) f)
