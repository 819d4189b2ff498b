-- Document 01, 'Sheet of examples': the marked examples as one table; the records and their lengths are those of document 02, [4].
use Rattle.std.specs.Prelude.{ℕ, ◌+◌, ◌-◌, ◌%◌, ◌≤◌, ◌≡◌, Bool, true, false, cond, List, [], ◌∷◌, ◌++◌, length, replicate, ℤ, pos}
use Rattle.std.proofs.Math.Option.{Option, some}
use Rattle.bits.specs.Strings.{Bits}
use Rattle.numbers.specs.Numbers.{little, from_little}
use Rattle.bits.specs.Packing.{pack}
use Rattle.places.specs.Places.{put_at}
use Rattle.calls.specs.Outcome.{Outcome, accepted}
use Rattle.expander.specs.Expander.{is_expander}
use Rattle.group.specs.Modular.{modulus}
use Rattle.point.specs.PublicShare.{public_share_length, level_start}
use Rattle.weights.specs.Weights.{EveryOne}
use Rattle.query.specs.Query.{packs, query}
use Rattle.tree.specs.Cut.{cuts}
use Rattle.tree.specs.Space.{list_space}
use Rattle.keymaker.specs.Key.{key_outcome}
use Rattle.idpf.specs.Share.{share_outcome}
use Rattle.search.specs.Search.{Lent, threshold_of, search_number}
use Rattle.honest.specs.Honest.{Accepted, record_read, list_read, Honest}
use Rattle.exam_text.specs.Sheet.{Sheet, strings, text, Within}
use Rattle.exam_answering.specs.Exam.{output}

-- A key of the sheet, whose weight is one: the number of its expander, its string and its root seeds.
pub record MarkedKey : Type 0 where
  pub expander : ℕ
  pub string : Bits
  pub seed0 : List ℕ
  pub seed1 : List ℕ

-- what the key maker answers
abbrev pub made_of : MarkedKey → Outcome
made_of k = key_outcome (length k.string) k.expander (pos 1) (pack k.string) k.seed0 k.seed1 (public_share_length (length k.string))

-- what server b answers at the prefix q when it is lent its seed and a public share
abbrev pub reply_at : MarkedKey → List ℕ → Bool → Bits → Outcome
reply_at k share b q = share_outcome (length k.string) k.expander b (cond b k.seed1 k.seed0) share (query (length q - 1) (q ∷ [])) 8

-- the key's public share with x for the payload correction of its first level
abbrev pub with_payload : MarkedKey → ℕ → List ℕ
with_payload k x = put_at (made_of k).written (level_start (length k.string) 0 + 16) (little 8 x)

-- A row of the table.
pub data Row : Type 0 where
  -- a key, and its public share
  public_share_of : MarkedKey → List ℕ → Row
  -- a key, a prefix, and the shares of server 0 and of server 1
  shares_at : MarkedKey → Bits → ℕ → ℕ → Row
  -- a key, a prefix, and the total of both servers
  total_at : MarkedKey → Bits → ℕ → Row
  -- a key, a prefix, a payload correction in place of the first, and the number that both servers return
  payload_at : MarkedKey → Bits → ℕ → ℕ → Row
  -- n, t and strings, and the record and the list that every accepted search of honest reports for them, every weight one, leaves, whatever its seeds
  -- and expander, and weighted or not
  search_of : ℕ → ℕ → List Bits → List ℕ → List Bits → Row
  -- n, t and strings, how many bytes the record area has, and the number that every search of honest reports for them, every weight one, returns, where
  -- the list area has the space that is named for an honest list and the expander is 1 or 2
  number_with : ℕ → ℕ → List Bits → ℕ → ℕ → Row
  -- t and strings, and their cut strings
  cuts_of : ℕ → List Bits → List Bits → Row
  -- n, t, the expander and strings, and the whole output for every exam sheet of them, whatever its seeds
  output_of : ℕ → ℕ → Option ℕ → List Bits → List ℕ → Row

-- what a row says
abbrev pub Holds : Row → Type 0
Holds (public_share_of k bytes) = made_of k ≡ accepted bytes
Holds (shares_at k q x y) =
    (reply_at k (made_of k).written false q ≡ accepted (little 8 x)) × (reply_at k (made_of k).written true q ≡ accepted (little 8 y))
Holds (total_at k q t) =
    let server : Bool → Outcome = λ b. reply_at k (made_of k).written b q in
    ((server false).number ≡ 0) × ((server true).number ≡ 0) × ((from_little (server false).written + from_little (server true).written) % modulus ≡ t)
Holds (payload_at k q x number) = ((reply_at k (with_payload k x) false q).number ≡ number) × ((reply_at k (with_payload k x) true q).number ≡ number)
Holds (search_of n t xs bytes ss) =
    (s : Lent) (ws : List ℤ) → Honest s xs ws → EveryOne ws → s.n ≡ n → threshold_of s ≡ t → Accepted s → (record_read s ≡ bytes) × (list_read s ≡ packs ss)
Holds (number_with n t xs room number) =
    (s : Lent) (ws : List ℤ) → Honest s xs ws → EveryOne ws → s.n ≡ n → threshold_of s ≡ t → is_expander s.expander ≡ true
    → length s.record_area ≡ room → list_space n t (length xs) ≤ length s.list_area → search_number s ≡ number
Holds (cuts_of t xs ss) = cuts t xs ≡ ss
Holds (output_of n t e xs bytes) = (s : Sheet) → Within s → s.n ≡ n → s.t ≡ t → s.expander ≡ e → strings s ≡ xs → output (text s) ≡ bytes

-- s0 all zero
abbrev pub zero_seed : List ℕ
zero_seed = replicate 16 0

-- s1 first byte 01, the rest zero
abbrev pub one_seed : List ℕ
one_seed = 1 ∷ replicate 15 0

-- expander 2, n = 1, string `1`
abbrev pub key_a : MarkedKey
key_a = record { expander = 2; string = true ∷ []; seed0 = zero_seed; seed1 = one_seed }

-- A with both seeds zero
abbrev pub key_h : MarkedKey
key_h = record { expander = 2; string = true ∷ []; seed0 = zero_seed; seed1 = zero_seed }

-- `00`, `01`, `10`, `11`, and `1`
abbrev pub s00 : Bits
s00 = false ∷ false ∷ []

abbrev pub s01 : Bits
s01 = false ∷ true ∷ []

abbrev pub s10 : Bits
s10 = true ∷ false ∷ []

abbrev pub s11 : Bits
s11 = true ∷ true ∷ []

abbrev pub s1 : Bits
s1 = true ∷ []

-- the head of a record of C reports, fewer than 256: C as 8 bytes, big-endian
abbrev pub head_of : ℕ → List ℕ
head_of C = replicate 7 0 ++ C ∷ []

-- what follows in a record of two levels: `0` and `1` with their totals, then `00` and `01` with theirs
abbrev pub two_levels : ℕ → ℕ → ℕ → ℕ → List ℕ
two_levels a b c d =
    (0 ∷ 0 ∷ 0 ∷ 0 ∷ 0 ∷ 2 ∷ 0 ∷ 128 ∷ []) ++ (a ∷ replicate 7 0) ++ (b ∷ replicate 7 0)
    ++ (0 ∷ 1 ∷ 0 ∷ 0 ∷ 0 ∷ 2 ∷ 0 ∷ 64 ∷ []) ++ (c ∷ replicate 7 0) ++ (d ∷ replicate 7 0)

-- the lines `0 2`, `1 1`, `00 0`, `01 2` and `heavy 01`
abbrev pub output_d : List ℕ
output_d =
    (48 ∷ 32 ∷ 50 ∷ 10 ∷ [])
    ++ (49 ∷ 32 ∷ 49 ∷ 10 ∷ [])
    ++ (48 ∷ 48 ∷ 32 ∷ 48 ∷ 10 ∷ [])
    ++ (48 ∷ 49 ∷ 32 ∷ 50 ∷ 10 ∷ [])
    ++ (104 ∷ 101 ∷ 97 ∷ 118 ∷ 121 ∷ 32 ∷ 48 ∷ 49 ∷ 10 ∷ [])

-- the marked examples
abbrev pub table : List Row
table =
    -- A
    public_share_of key_a (1 ∷ (2 ∷ replicate 7 0) ++ (3 ∷ replicate 7 0) ++ (1 ∷ replicate 7 0))
    -- B
    ∷ shares_at key_a (true ∷ []) 6 (modulus - 5)
    -- C
    ∷ shares_at key_a (false ∷ []) 5 (modulus - 5)
    -- D
    ∷ search_of 2 2 (s01 ∷ s01 ∷ s11 ∷ []) (head_of 3 ++ two_levels 2 1 0 2) (s01 ∷ [])
    ∷ cuts_of 2 (s01 ∷ s01 ∷ s11 ∷ []) (s01 ∷ s01 ∷ s1 ∷ [])
    ∷ output_of 2 2 (some 2) (s01 ∷ s01 ∷ s11 ∷ []) output_d
    -- E
    ∷ search_of 2 2 (s01 ∷ s01 ∷ s10 ∷ []) (head_of 3 ++ two_levels 2 1 0 2) (s01 ∷ [])
    ∷ cuts_of 2 (s01 ∷ s01 ∷ s10 ∷ []) (s01 ∷ s01 ∷ s1 ∷ [])
    ∷ number_with 2 2 (s01 ∷ s01 ∷ s10 ∷ []) 56 0
    -- F
    ∷ search_of 2 2 (s01 ∷ s00 ∷ s11 ∷ []) (head_of 3 ++ two_levels 2 1 1 1) []
    ∷ cuts_of 2 (s01 ∷ s00 ∷ s11 ∷ []) (s01 ∷ s00 ∷ s1 ∷ [])
    ∷ number_with 2 2 (s01 ∷ s00 ∷ s11 ∷ []) 56 0
    -- G
    ∷ search_of 1 1 [] (head_of 0 ++ (0 ∷ 0 ∷ 0 ∷ 0 ∷ 0 ∷ 2 ∷ 0 ∷ 128 ∷ []) ++ replicate 16 0) []
    ∷ number_with 1 1 [] 32 0
    ∷ number_with 1 1 [] 31 11
    -- H
    ∷ total_at key_h (true ∷ []) 1
    ∷ total_at key_h (false ∷ []) 0
    -- I
    ∷ payload_at key_a (true ∷ []) (modulus - 1) 0
    ∷ payload_at key_a (true ∷ []) modulus 6
    -- J
    ∷ number_with 2 2 (s01 ∷ s01 ∷ s11 ∷ []) 56 0
    ∷ number_with 2 2 (s01 ∷ s01 ∷ s11 ∷ []) 55 11
    ∷ []
