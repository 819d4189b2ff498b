-- Words of the demands: a key with its point function, a server's answer, the calls in turn, and when an honest search is ready.
use Rattle.std.specs.Prelude.{ℕ, ◌*◌, ◌≤◌, ◌≡◌, Bool, false, cond, List, [], length, get_or, ℤ, pos}
use Rattle.places.specs.Lists.{All}
use Rattle.places.specs.Places.{Bytes}
use Rattle.bits.specs.Strings.{Bits}
use Rattle.bits.specs.Packing.{pack}
use Rattle.calls.specs.Outcome.{Outcome}
use Rattle.expander.specs.declared.Expander.{Expander}
use Rattle.expander.specs.declared.Expander.TheVariants.{Aes, Classroom}
use Rattle.point.specs.Node.{Node}
use Rattle.point.specs.Correction.{Correction}
use Rattle.point.specs.Keys.{key_correction}
use Rattle.point.specs.Evaluation.{bit_of, share_at}
use Rattle.point.specs.PublicShare.{public_share}
use Rattle.point.specs.Instance.{scheme}
use Rattle.query.specs.Query.{OfLength}
use Rattle.tree.specs.Space.{fewest_holders, record_space, list_space}
use Rattle.keymaker.specs.Key.{key_outcome}
use Rattle.group.specs.Modular.{modulus, field}
use Rattle.signed.specs.SignedReading.{embed}
use Rattle.weights.specs.Weights.{IsWeight, EveryOne}
use Rattle.report_sums.specs.Reports.{seed_at, all_count, sum_where}
use Rattle.idpf.specs.Share.{share_outcome}
use Rattle.search.specs.Search.{Lent, lent, threshold_of}
use Rattle.honest.specs.Honest.{counted_strings}
use Rattle.honest.specs.Loop.{first_query, Played, played}
use Rattle.kept_search.specs.KeptLoop.{begun, kept_played}

-- ---- a key

-- Its expander, its weight, its string and its two root seeds.
pub record Key : Type 0 where
  pub expander : Expander
  pub weight : ℤ
  pub string : Bits
  pub seed0 : List ℕ
  pub seed1 : List ℕ

-- The string has 1 to 256 bits, and the seeds are any of 16 bytes.
pub record InBounds (k : Key) : Type 0 where
  pub some_bits : 1 ≤ length k.string
  pub not_longer : length k.string ≤ 256
  pub sized0 : Bytes 16 k.seed0
  pub sized1 : Bytes 16 k.seed1

-- the number that names an expander: 1 for AES-128, 2 for the classroom expander
abbrev pub expander_number : Expander → ℕ
expander_number Aes = 1
expander_number Classroom = 2

-- what the key maker gives in `room` bytes of space
abbrev pub made : Key → ℕ → Outcome
made k room = key_outcome (length k.string) (expander_number k.expander) k.weight (pack k.string) k.seed0 k.seed1 room

-- its weight as a group number
abbrev pub group_weight : Key → ℕ
group_weight k = embed modulus k.weight

-- the correction words of the point function that is this number on the string's path
abbrev pub key_words : Key → ℕ → Correction ℕ
key_words k = key_correction (scheme k.expander) (group_weight k) (bit_of k.string) k.seed0 k.seed1

-- its public share
abbrev pub point_key : Key → List ℕ
point_key k = public_share (length k.string) (key_words k)

-- server b's share of it at the prefix q
abbrev pub point_share : Key → Bool → Bits → ℕ
point_share k b q = share_at (scheme k.expander) (key_words k) (cond b k.seed1 k.seed0) b q

-- ---- a search whose reports are made for the strings xs with the weights ws

-- the key of report i
abbrev pub key_of : Lent → List Bits → List ℤ → Expander → ℕ → Key
key_of s xs ws e i = record { expander = e; weight = get_or ws i (pos 0); string = get_or xs i []; seed0 = seed_at s.seeds0 i; seed1 = seed_at s.seeds1 i }

-- server b's shares of all keys at the prefix q, added in the group
abbrev pub point_sum : Lent → List Bits → List ℤ → Expander → Bool → Bits → ℕ
point_sum s xs ws e b q = sum_where field all_count (length xs) (λ i. point_share (key_of s xs ws e i) b q)

-- what server b answers to a query in `room` bytes of space, with its own seeds and public shares
abbrev pub served : Lent → Bool → List ℕ → ℕ → Outcome
served s b query room = share_outcome s.n s.expander b (cond b s.seeds1 s.seeds0) (cond b s.shares1 s.shares0) query room

-- what is left when both servers and combining are called in turn, from the first query on, for at most n rounds
abbrev pub by_calls : Lent → Played
by_calls s = played s s.n first_query

-- the same where server b keeps its nodes in the list `nodes b`, begun at the roots
abbrev pub by_kept_calls : Lent → (Bool → List Node) → Played
by_kept_calls s nodes = kept_played s s.n (begun s nodes) first_query

-- ---- when an honest search is ready

-- Its n, its expander and the number of its reports are in their bounds.
pub record Servable (s : Lent) (xs : List Bits) (e : Expander) : Type 0 where
  pub some_bits : 1 ≤ s.n
  pub not_longer : s.n ≤ 256
  pub named : s.expander ≡ expander_number e
  pub few : length xs ≤ 65535

-- the greatest threshold: 65,535, and in a weighted search 2,147,483,647
abbrev pub greatest_threshold : Lent → ℕ
greatest_threshold s = cond s.weighted 2147483647 65535

-- how many installations hold a kept prefix, at least: t; in a weighted search ⌈t ÷ 32,767⌉, since a weight is at most 32,767
abbrev pub holders_of : Lent → ℕ
holders_of s = fewest_holders s.weighted (threshold_of s)

-- Besides, its t is in its bounds, and its areas have the space that is named for an honest record and list.
pub record Ready (s : Lent) (xs : List Bits) (e : Expander) : Type 0 where
  pub servable : Servable s xs e
  pub some_threshold : 1 ≤ threshold_of s
  pub not_higher : threshold_of s ≤ greatest_threshold s
  pub enough_record_space : record_space s.n (holders_of s) (length (counted_strings s xs)) ≤ length s.record_area
  pub enough_list_space : list_space s.n (holders_of s) (length (counted_strings s xs)) ≤ length s.list_area

-- The strings have n bits, there are a weight and two root seeds of 16 bytes for each, and every weight is one where the search is not weighted.
pub record Seeded (s : Lent) (xs : List Bits) (ws : List ℤ) : Type 0 where
  pub n_bits : OfLength s.n xs
  pub weighed : length ws ≡ length xs
  pub weights : All IsWeight ws
  pub unweighted : s.weighted ≡ false → EveryOne ws
  pub seeds0 : Bytes (16 * length xs) s.seeds0
  pub seeds1 : Bytes (16 * length xs) s.seeds1

-- the search with the given public shares for both servers
abbrev pub with_shares : Lent → List ℕ → Lent
with_shares s shares = lent s.n s.weighted s.t s.expander s.seeds0 shares s.seeds1 shares s.record_area s.list_area
