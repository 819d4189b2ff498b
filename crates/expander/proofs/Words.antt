-- A block as two words: what is written and read of it, eight bytes at a time.
use Rattle.std.proofs.Common.{◌≡◌, ℕ, ◌+◌, ◌%◌, ◌^◌, ◌<◌, List, ◌++◌, length, take, drop, replicate, sym, refl, ap, ◌∙◌, ap₂, arith, length-drop, take_all}
use native.Mathlib.Nat.{div-eq_of_lt, mod-add-mod}
use Rattle.numbers.specs.Numbers.{little, from_little, big}
use Rattle.places.specs.Places.{window, put_at}
use Rattle.numbers.proofs.Endian.{big_append}
use Rattle.places.proofs.Places.{window_inside}
use Rattle.expander.specs.Expander.{classroom_block}

-- sixteen zeros with two words written over them
pub joined : (a b : ℕ) → put_at (put_at (replicate 16 0) 0 (little 8 a)) 8 (little 8 b) ≡ little 8 a ++ little 8 b
unfolding put_at little
joined a b = refl

zeros_then : (j : ℕ) → put_at (replicate 16 0) 8 (big 8 j) ≡ big 8 0 ++ big 8 j
unfolding put_at big
zeros_then j = refl

-- eight zeros and then a word are a number of sixteen bytes
pub counted : (j : ℕ) → j < 2 ^ 64 → put_at (replicate 16 0) 8 (big 8 j) ≡ big 16 j
counted j h = zeros_then j ∙ ap (λ (x : ℕ). big 8 x ++ big 8 j) (sym (div-eq_of_lt h)) ∙ sym (big_append 8 8 j)

-- the two words of a seed
pub low : (seed : List ℕ) → length seed ≡ 16 → window 8 0 seed ≡ take 8 seed
low seed h = window_inside 8 0 seed (omega arith)

pub high : (seed : List ℕ) → length seed ≡ 16 → window 8 8 seed ≡ drop 8 seed
high seed h = window_inside 8 8 seed (omega arith) ∙ take_all 8 (drop 8 seed) (omega (arith, length-drop 8 seed))

-- the classroom's block, from the words that the code has: s is a + j as it was kept
pub classroom_words : (seed : List ℕ) (j : ℕ) {a b s first second : ℕ} → length seed ≡ 16 → a ≡ from_little (window 8 0 seed) → b ≡ from_little (window 8 8 seed)
    → s ≡ (a + j) % 2 ^ 64 → first ≡ (s + 1) % 2 ^ 64 → second ≡ (b + first) % 2 ^ 64 → little 8 first ++ little 8 second ≡ classroom_block seed j
unfolding classroom_block
classroom_words seed j {a} {b} {s} {first} {second} l ha hb hs hf h2 =
    let ea : a ≡ from_little (take 8 seed) = ha ∙ ap from_little (low seed l) in
    let eb : b ≡ from_little (drop 8 seed) = hb ∙ ap from_little (high seed l) in
    let ef : first ≡ (from_little (take 8 seed) + j + 1) % 2 ^ 64 =
    hf ∙ ap (λ (x : ℕ). (x + 1) % 2 ^ 64) hs ∙ mod-add-mod (a + j) (2 ^ 64) 1 ∙ ap (λ (x : ℕ). (x + j + 1) % 2 ^ 64) ea in
    ap₂ (λ (x y : ℕ). little 8 x ++ little 8 y) ef (h2 ∙ ap₂ (λ (x y : ℕ). (x + y) % 2 ^ 64) eb ef)
