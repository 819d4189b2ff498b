-- The user's three demands, sentence by sentence, as three types; `demand_1`, `demand_2` and `demand_3` in the crate's proofs are their proofs.
-- Their calls stand in `Calls`, their keys and searches in `Words`; every other word is defined where it is brought in from.
use Rattle.std.specs.Prelude.{Some}
use Rattle.std.specs.Prelude.{ℕ, ◌+◌, ◌*◌, ◌/◌, ◌%◌, ◌≤◌, ◌<◌, ◌≡◌, Bool, true, false, cond, ◌&&◌, List, [], ◌∷◌, ◌++◌, ◌≢◌, ◌↔◌, length, take, drop, replicate, eqb, ℤ, ◌+ℤ◌}
use Rattle.std.proofs.Math.Option.{none}
use Rattle.places.specs.Lists.{◌∈◌, All}
use Rattle.bits.specs.Strings.{Bits, ◌▹◌, is_prefix, count, Ascending}
use Rattle.numbers.specs.Numbers.{big}
use Rattle.group.specs.Modular.{modulus}
use Rattle.signed.specs.SignedReading.{signed_in}
use Rattle.weights.specs.Weights.{EveryOne, held_weight}
use Rattle.calls.specs.Causes.{Due}
use Rattle.calls.specs.Outcome.{accepted}
use Rattle.expander.specs.Expander.{choice_of}
use Rattle.expander.specs.declared.Expander.{Expander}
use Rattle.point.specs.Node.{Node}
use Rattle.point.specs.PublicShare.{public_share_length}
use Rattle.query.specs.Query.{packs, IsQuery, prefix_count, prefixes_of, children}
use Rattle.tree.specs.SearchRule.{start, totals, heading}
use Rattle.tree.specs.Cut.{cut, cuts, times, Rearranged}
use Rattle.parents.specs.Parents.{last_prefixes, ParentMissing}
use Rattle.node_lists.specs.NodeList.{share_count, report_by_report}
use Rattle.node_lists.specs.Roots.{roots_number, roots_after}
use Rattle.node_lists.specs.ShareKept.{KeptLent, kept_outcome, nodes_after}
use Rattle.node_lists.specs.Sessions.{Session, call, walked, walked_node, Reached}
use Rattle.search.specs.Search.{Lent, reports, counted_number, threshold_of, total, queries_fit}
use Rattle.honest.specs.Honest.{Accepted, record_read, list_read, Honest, counted_strings, counted_weights, HeavyThroughout}
use Rattle.honest.specs.Loop.{Passes, first_query, kept_at}
use Rattle.demands.specs.Calls.{Call, causes, InOrder, Area, Nodes, result}
use Rattle.demands.specs.Words.{Key, InBounds, made, group_weight, point_key, point_share, point_sum, served, by_calls, by_kept_calls, Servable, Ready, Seeded, with_shares}

-- ==== Demand 1

-- an area after a refusal with the number k: the length is 0 and no byte is changed, but the record area of a search is zero bytes where k is 11
abbrev pub AfterRefusal : ℕ → Area → Type 0
AfterRefusal k a = (a.returned ≡ 0) × (a.exit ≡ cond (a.is_record && eqb k 11) (replicate (length a.entry) 0) a.entry)

-- an area after success: the length is within the area, which keeps its size, and the bytes past that length are as they were
abbrev pub AfterSuccess : Area → Type 0
AfterSuccess a =
    (a.returned ≤ length a.entry) × (length a.exit ≡ length a.entry)
    × (drop a.returned a.exit ≡ drop a.returned a.entry)

-- a list of nodes keeps its size, and its spare nodes are as they were
abbrev pub SpareUnchanged : Nodes → Type 0
SpareUnchanged l = (length l.exit ≡ length l.entry) × (drop l.used l.exit ≡ drop l.used l.entry)

-- 'The program as a whole, library and exam program, ends on every input': that is the checker's claim for each function that it proves.
abbrev pub Demand1 : Type 0
Demand1 =
    -- 'Every call checks what it is lent and refuses with the number that document 01 orders first': its causes stand in that order, and the number is
    -- that of the first that applies, and no other is.
    (c : Call) → InOrder (causes c) × Due (causes c) (result c).number × ((k : ℕ) → Due (causes c) k → k ≡ (result c).number)
    -- 'A refusal changes no lent buffer, except that a search refused for space or for too many prefixes leaves its record zeroed.'
    × ((result c).number ≢ 0 → All (AfterRefusal (result c).number) (result c).areas)
    -- Document 01: 'A refused combining names none of its three kinds of answer.'
    × ((result c).number ≢ 0 → (result c).kind ≡ none)
    -- Document 01: 'Success is 0 with the lengths written; bytes past them are unchanged.'
    × ((result c).number ≡ 0 → All AfterSuccess (result c).areas)
    -- Document 02, [2]: 'Refusals change no node, and spare nodes, those past reports × prefixes of the new query, are never changed.'
    × ((result c).number ≢ 0 → All (λ l. l.exit ≡ l.entry) (result c).lists)
    × All SpareUnchanged (result c).lists
    × ((result c).number ≡ 0 → All (λ l. l.used ≤ length l.entry) (result c).lists)

-- ==== Demand 2

-- the bytes are the strings of n bits of which `Wanted` holds and no other, once each, ascending, packed
abbrev pub TheStrings : ℕ → (Bits → Type 0) → List ℕ → Type 0
TheStrings n Wanted bytes =
    (ss : List Bits) × (bytes ≡ packs ss)
    × ((x : Bits) → (x ∈ ss) ↔ ((length x ≡ n) × Wanted x))
    × ((x : Bits) → times x ss ≤ 1)
    × Ascending ss

-- those that at least t installations hold; as all strings have n bits, those that have x as a prefix are those that are x
abbrev pub TheHeavyStrings : Lent → List Bits → List ℕ → Type 0
TheHeavyStrings s xs = TheStrings s.n (λ x. threshold_of s ≤ count (counted_strings s xs) x)

-- those all of whose non-empty prefixes have holders' weights adding to t or more
abbrev pub TheWeightedStrings : Lent → List Bits → List ℤ → List ℕ → Type 0
TheWeightedStrings s xs ws = TheStrings s.n (HeavyThroughout (threshold_of s) (counted_strings s xs) (counted_weights s ws))

abbrev pub Demand2 : Type 0
Demand2 =
    -- 'Keys .. are those of the incremental distributed point function of Boneh and others (IEEE S&P 2021) with AES-128, or with the classroom
    -- expander of document 01', which `point/specs` states step by step: the key maker writes its public share,
    ((k : Key) → InBounds k → (room : ℕ) → public_share_length (length k.string) ≤ room → made k room ≡ accepted (point_key k))
    -- and the shares of both servers at a prefix add to the weight if the string has it, and to 0 if not.
    × ((k : Key) → InBounds k → (q : Bits) → 1 ≤ length q → length q ≤ length k.string
    → (point_share k false q + point_share k true q) % modulus ≡ cond (is_prefix q k.string) (group_weight k) 0)
    -- 'Keys and both servers' shares': a server's answer to a query is, for each prefix in order, the sum of its shares of all keys.
    × ((s : Lent) (xs : List Bits) (ws : List ℤ) (e : Expander) → Honest s xs ws → Servable s xs e
    → (b : Bool) (query : List ℕ) → IsQuery s.n query → (room : ℕ) → 8 * prefix_count query ≤ room
    → served s b query room ≡ accepted (totals (point_sum s xs ws e b) (prefixes_of query)))
    -- Document 02, [2]: 'keep, in a lent list of nodes, the seed and control bit for each report at each prefix of the last query'; 'Nodes stand report by
    -- report, prefixes in query order.'
    × ((s : Session) (e : Expander) (last : List ℕ) (nodes : List Node) → choice_of s.expander ≡ Some e → Reached s last nodes
    → let R = share_count s.n s.shares in
    take (R * length (last_prefixes last)) nodes ≡ report_by_report R (walked_node s e) (last_prefixes last))
    -- Document 02, [2]: 'Provided reports, expander and server stay the same throughout, the list began at the roots, and each later call gets it as the
    -- accepted call before left it, with that call's new query as its last, shares equal those of the walk from the root.'
    × ((s : Session) (last query : List ℕ) (nodes : List Node) (area : List ℕ) → Reached s last nodes
    → (kept_outcome (call s last query nodes area)).number ≡ 0 → kept_outcome (call s last query nodes area) ≡ walked s query (length area))
    -- Such calls are accepted where `share` is: nodes that are enough and parents in the last query are all that is asked besides. The list that
    -- `write_roots` leaves is one at the roots; a refused call of either, whatever it is lent besides, leaves the list as it may be given to the next.
    × ((s : Session) (last query : List ℕ) (nodes : List Node) (area : List ℕ) → Reached s last nodes
    → share_count s.n s.shares * length (prefixes_of query) ≤ length nodes → (ParentMissing last query → ⊥)
    → kept_outcome (call s last query nodes area) ≡ walked s query (length area))
    × ((s : Session) (nodes : List Node) → roots_number s.seeds (length nodes) ≡ 0 → Reached s [] (roots_after s.server s.seeds nodes))
    × ((s : Session) (last : List ℕ) (c : KeptLent) → Reached s last c.nodes → (kept_outcome c).number ≢ 0 → Reached s last (nodes_after c))
    × ((s : Session) (last : List ℕ) (b : Bool) (seeds : List ℕ) (nodes : List Node) → Reached s last nodes → roots_number seeds (length nodes) ≢ 0
    → Reached s last (roots_after b seeds nodes))
    -- 'For honestly made keys with any seeds, the list of an accepted search holds every string of the search's full length that at least t
    -- installations hold and no other, once each, ascending.' So it is where every weight is one.
    × ((s : Lent) (xs : List Bits) (ws : List ℤ) → Honest s xs ws → EveryOne ws → Accepted s → TheHeavyStrings s xs (list_read s))
    -- Document 02, [1]: 'In an unweighted search a report is honest only if its weight is one.'
    × ((s : Lent) (xs : List Bits) (ws : List ℤ) → Honest s xs ws → s.weighted ≡ false → EveryOne ws)
    -- Document 02, [1]: 'the weighted list holds the strings of n bits all of whose non-empty prefixes have holders' weights adding to t or more.'
    × ((s : Lent) (xs : List Bits) (ws : List ℤ) → Honest s xs ws → Accepted s → TheWeightedStrings s xs ws (list_read s))
    -- So does the list that both servers and combining leave when they are called in turn, unless a cause before 11 applies;
    × ((s : Lent) (xs : List Bits) (ws : List ℤ) → Honest s xs ws → EveryOne ws → Passes s → TheHeavyStrings s xs (by_calls s).listed)
    × ((s : Lent) (xs : List Bits) (ws : List ℤ) → Honest s xs ws → Passes s → TheWeightedStrings s xs ws (by_calls s).listed)
    -- and for any reports, honest or not, an accepted search's record is the number of reports and then what they leave, and its list is theirs.
    × ((s : Lent) → Accepted s → (record_read s ≡ heading (counted_number s) ++ (by_calls s).recorded) × (list_read s ≡ (by_calls s).listed))
    -- So it is where both servers keep their nodes: with lists long enough for every query the calls leave the same.
    × ((s : Lent) → Passes s → queries_fit s ≡ true → (nodes : Bool → List Node)
    → ((b : Bool) (k : ℕ) → k < s.n → reports s * length (children (kept_at s k)) ≤ length (nodes b))
    → by_kept_calls s nodes ≡ by_calls s)
    -- There are such searches: any strings, weights and seeds have public shares with which they are honest, and an honest search that is ready is
    -- accepted.
    × ((s : Lent) (xs : List Bits) (ws : List ℤ) (e : Expander) → Servable s xs e → Seeded s xs ws → (shares : List ℕ) × Honest (with_shares s shares) xs ws)
    × ((s : Lent) (xs : List Bits) (ws : List ℤ) (e : Expander) → Honest s xs ws → Ready s xs e → Accepted s)

-- ==== Demand 3

-- q is a prefix of x, and not the empty one
abbrev pub SomePrefix : Bits → Bits → Type 0
SomePrefix q x = (is_prefix q x ≡ true) × (1 ≤ length q)

-- c is the shortest non-empty prefix of x that fewer than t of the strings have, or x whole if there is none
abbrev pub CutTo : ℕ → List Bits → Bits → Bits → Type 0
CutTo t xs x c =
    ((q : Bits) → SomePrefix q x → count xs q < t → SomePrefix c x × (count xs c < t) × (length c ≤ length q))
    × (((q : Bits) → SomePrefix q x → t ≤ count xs q) → c ≡ x)

-- the cut strings of a search, in the order of its reports
abbrev pub cut_strings : Lent → List Bits → List Bits
cut_strings s xs = cuts (threshold_of s) (counted_strings s xs)

abbrev pub Demand3 : Type 0
Demand3 =
    -- 'In each search, cut every installation's string down to its shortest non-empty prefix that fewer than t installations of that search hold, or
    -- leave it whole if there is none.'
    ((t : ℕ) (xs : List Bits) (x : Bits) → CutTo t xs x (cut t xs x))
    -- 'For any two accepted searches of honest reports with equal string length and t, whatever the seeds, expander and number of reports of each,
    -- the two records are alike in length and in every byte exactly when the two lists of cut strings are rearrangements of each other.' Document 02,
    -- [1]: 'claimed only where every weight is one', and there whether or not either search is weighted.
    × ((s u : Lent) (xs ys : List Bits) (ws vs : List ℤ) → Honest s xs ws → Honest u ys vs → EveryOne ws → EveryOne vs
    → s.n ≡ u.n → threshold_of s ≡ threshold_of u → Accepted s → Accepted u
    → (record_read s ≡ record_read u) ↔ Rearranged (cut_strings s xs) (cut_strings u ys))
    -- Document 02, [4]: 'Every record shall begin with C as 8 bytes, big-endian', whatever reports were lent.
    × ((s : Lent) → Accepted s → take 8 (record_read s) ≡ big 8 (counted_number s))
    -- 'This is all that two servers jointly learn from the totals': the record has each query followed by its totals (demand 2, called in turn), so the
    -- equivalence above speaks of all of them; and every record has at least the first query and its totals,
    × ((s : Lent) → Accepted s
    → (rest : List ℕ) × (record_read s ≡ heading (counted_number s) ++ (first_query ++ (totals (total s) (children start) ++ rest))))
    -- 'A candidate must be able to work it out by hand, so no random noise may be added to the totals': where every weight is one the total of a prefix
    -- is the number of installations that hold it, and with any weights it reads as the signed number that theirs add to.
    × ((s : Lent) (xs : List Bits) (ws : List ℤ) → Honest s xs ws → EveryOne ws → Accepted s
    → (q : Bits) → 1 ≤ length q → length q ≤ s.n → total s q ≡ count (counted_strings s xs) q)
    × ((s : Lent) (xs : List Bits) (ws : List ℤ) → Honest s xs ws → Accepted s
    → (q : Bits) → 1 ≤ length q → length q ≤ s.n → signed_in modulus (total s q) ≡ held_weight (counted_strings s xs) (counted_weights s ws) q)
    -- Document 01: 'the totals of two children add to their parent's', as signed numbers with any weights; 'the first two totals add to C, and a query
    -- after the first has at most 2 × ⌊C ÷ t⌋ prefixes', where every weight is one; there 'the first totals already gave C' (document 02, [4]).
    × ((s : Lent) (xs : List Bits) (ws : List ℤ) → Honest s xs ws → Accepted s → (q : Bits) → 1 ≤ length q → length q < s.n
    → signed_in modulus (total s (q ▹ false)) +ℤ signed_in modulus (total s (q ▹ true)) ≡ signed_in modulus (total s q))
    × ((s : Lent) (xs : List Bits) (ws : List ℤ) → Honest s xs ws → EveryOne ws → Accepted s → total s (false ∷ []) + total s (true ∷ []) ≡ counted_number s)
    × ((s : Lent) (xs : List Bits) (ws : List ℤ) → Honest s xs ws → EveryOne ws → Accepted s → (k : ℕ) → 1 ≤ k → k < s.n
    → length (children (kept_at s k)) ≤ 2 * (length (counted_strings s xs) / threshold_of s))

-- ==== What is assumed
-- What `result` says of a call is what the contract of its function says: the `ensures` in `src`, which the checker proves of the code.
-- The checker accepts no false proof, and its account of the language is the language.
-- The compiler's back end keeps to that account: of the machine code nothing is proved.
-- The crates io, libc and os, which only the programs call, do what their contracts say.
-- A lent node's bit is a byte 0 or 1, as a truth value of C and Rust is.
-- No contract says which bytes a program's `main` reads and writes; the exam's lends what it reads to `respond`, and writes what that leaves.
-- That one server alone learns nothing is not shown: it rests on AES-128 and the paper, and the classroom expander hides nothing.
