-- AES-128 by FIPS 197, section 5. A block, a key and a state are lists of 16 bytes, of which byte r + 4 c stands in row r, column c of the state
-- (section 3.4). A word is a list of 4 bytes.
use Rattle.std.specs.Prelude.{List, [], ◌∷◌, ◌++◌, map, ℕ, zero, suc, ◌+◌, ◌-◌, ◌*◌, ◌/◌, ◌%◌, ◌^◌, get_or, take, drop}
use Rattle.gf256.specs.Field.{tabulate, ◌⊕◌, ◌·◌, inverse}

infixl 80 ◌‼◌
-- Element i of a list.
abbrev pub ◌‼◌ : List ℕ → ℕ → ℕ
l ‼ i = get_or l i 0

-- Word j of a list.
abbrev pub word : ℕ → List ℕ → List ℕ
word j s = take 4 (drop (4 * j) s)

-- The sum of two words.
abbrev pub sum_word : List ℕ → List ℕ → List ℕ
sum_word v w = tabulate 4 (λ i. v ‼ i ⊕ w ‼ i)

-- Bit i of a byte.
unfoldable pub bit : ℕ → ℕ → ℕ
bit i x = x / 2 ^ i % 2

-- Section 5.1.1: bit i of the affine map at a byte.
unfoldable pub affine_bit : ℕ → ℕ → ℕ
affine_bit x i = (bit i x + bit ((i + 4) % 8) x + bit ((i + 5) % 8) x + bit ((i + 6) % 8) x + bit ((i + 7) % 8) x + bit i 0x63) % 2

-- The number whose bits are the n lowest bits of the affine map at a byte.
unfoldable pub affine_bits : ℕ → ℕ → ℕ
affine_bits x zero = 0
affine_bits x (suc n) = affine_bits x n + affine_bit x n * 2 ^ n

-- Section 5.1.1: the affine map.
unfoldable pub affine : ℕ → ℕ
affine x = affine_bits x 8

-- Section 5.1.1: the S-box, the inverse and then the affine map.
unfoldable pub s_box : ℕ → ℕ
s_box x = affine (inverse x)

-- Section 5.1.1: the S-box as a table.
unfoldable pub s_box_table : List ℕ
s_box_table = tabulate 256 s_box

-- Section 5.1.1: SubBytes, the S-box at each byte.
abbrev pub sub_bytes : List ℕ → List ℕ
sub_bytes s = map s_box s

-- Section 5.1.2: ShiftRows, which moves row r to the left by r columns.
abbrev pub shift_rows : List ℕ → List ℕ
shift_rows s = tabulate 16 (λ i. s ‼ ((i + 4 * (i % 4)) % 16))

-- Section 5.1.3: the product of a column with the fixed matrix.
abbrev pub mix_column : List ℕ → List ℕ
mix_column w = tabulate 4 (λ r. 2 · (w ‼ r) ⊕ 3 · (w ‼ ((r + 1) % 4)) ⊕ w ‼ ((r + 2) % 4) ⊕ w ‼ ((r + 3) % 4))

-- Section 5.1.3: MixColumns, each column by itself.
abbrev pub mix_columns : List ℕ → List ℕ
mix_columns s = mix_column (word 0 s) ++ mix_column (word 1 s) ++ mix_column (word 2 s) ++ mix_column (word 3 s)

-- Section 5.1.4: AddRoundKey, the sum of a state and a round key.
abbrev pub add_round_key : List ℕ → List ℕ → List ℕ
add_round_key s k = tabulate 16 (λ i. s ‼ i ⊕ k ‼ i)

-- Section 5.2: RotWord, which moves each byte of a word one place to the left.
abbrev pub rot_word : List ℕ → List ℕ
rot_word w = w ‼ 1 ∷ w ‼ 2 ∷ w ‼ 3 ∷ w ‼ 0 ∷ []

-- Section 5.2: SubWord, the S-box at each byte of a word.
abbrev pub sub_word : List ℕ → List ℕ
sub_word w = map s_box w

-- The power x ^ i in GF(2^8), where x is the byte 2.
unfoldable pub power_of_x : ℕ → ℕ
power_of_x zero = 1
power_of_x (suc i) = 2 · power_of_x i

-- Section 5.2: the word Rcon[j], for j from 1.
unfoldable pub rcon : ℕ → List ℕ
rcon j = power_of_x (j - 1) ∷ 0 ∷ 0 ∷ 0 ∷ []

-- Section 5.2: the four words of the key schedule after the words of round key k, with the round constant c.
abbrev pub next_round_key : List ℕ → List ℕ → List ℕ
next_round_key c k =
    let w0 = sum_word (word 0 k) (sum_word (sub_word (rot_word (word 3 k))) c) in
    let w1 = sum_word (word 1 k) w0 in
    let w2 = sum_word (word 2 k) w1 in
    let w3 = sum_word (word 3 k) w2 in
    w0 ++ w1 ++ w2 ++ w3

-- Section 5.2: KeyExpansion; the words 4 i to 4 i + 3 of the key schedule are the round key of round i.
unfoldable pub round_key : List ℕ → ℕ → List ℕ
round_key key zero = key
round_key key (suc i) = next_round_key (rcon (suc i)) (round_key key i)

-- Section 5.1: a round, with its round key.
abbrev pub round : List ℕ → List ℕ → List ℕ
round s k = add_round_key (mix_columns (shift_rows (sub_bytes s))) k

-- Section 5.1: the last round, which has no MixColumns.
abbrev pub last_round : List ℕ → List ℕ → List ℕ
last_round s k = add_round_key (shift_rows (sub_bytes s)) k

-- Section 5.1: the state after n rounds, from the state before the first.
unfoldable pub rounds : List ℕ → List ℕ → ℕ → List ℕ
rounds key s zero = s
rounds key s (suc n) = round (rounds key s n) (round_key key (suc n))

-- Section 5.1: Cipher, which has 10 rounds for a key of 16 bytes.
unfoldable pub cipher : List ℕ → List ℕ → List ℕ
cipher key block = last_round (rounds key (add_round_key block (round_key key 0)) 9) (round_key key 10)
