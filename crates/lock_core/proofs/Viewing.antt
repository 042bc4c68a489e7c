-- For `LockProtocol::add`, `LockProtocol::end`, `LockProtocol::join` and others: the readers as the struct has them, with the number of entries that each has seen.
use Rattle.std.proofs.Common.{ℕ, zero, suc, ◌≡◌, ◌≤◌, ◌+◌, ◌-◌, ◌∙◌, refl, sym, ap, List, [], ◌∷◌, ◌++◌, length, map, take, replicate, get_or, set, max, nat_lt, arith, inl, inr}
use Rattle.std.proofs.lemmas.Bool.{cases_lt, cond-true, cond-false}
use Rattle.std.proofs.lemmas.Bool.Decides.{nat_tests}
use Rattle.std.proofs.lemmas.List.{map-set, length-take-le, take-append-le, take_all}
use Rattle.mm_types.specs.declared.call.Entry.{Entry}
use Rattle.lock_core.specs.declared.protocol.ReaderState.{ReaderState}
use Rattle.lock_core.specs.declared.stage.Stage.{Stage}
use Rattle.lock_core.specs.declared.stage.Stage.TheVariants.{Out, Holds, Gone}
use Rattle.lock_core.specs.Core.{LockCore, Reader, slot_at, count_at, reader_at, gone_reader}
use Rattle.lock_core.specs.Events.{longer, stage_after_look, held_slot, after_add, after_look, after_sub, after_lock_join}
use Rattle.lock_core.specs.Internal.Protocols.{reader_that_saw}

-- the reader of no number, as the struct would have it
abbrev pub gone_state : ReaderState
gone_state = record { stage = Gone; seen = 0 }

-- the longer of two beginnings of a journal
pub longer-take : (journal : List Entry) (one other : ℕ) → one ≤ length journal → other ≤ length journal
    → longer (take one journal) (take other journal) ≡ take (max one other) journal
longer-take journal one other below below' =
    let first = length-take-le one journal below in
    let second = length-take-le other journal below' in
    elim (cases_lt one other) [
      | inl less ↦
          cond-true (nat_lt (length (take one journal)) (length (take other journal))) (take other journal) (take one journal) (grind (arith, nat_tests))
          ∙ ap (λ n. take n journal) (let e : other ≡ max one other = omega arith in e)
      | inr most ↦
          cond-false (nat_lt (length (take one journal)) (length (take other journal))) (take other journal) (take one journal) (grind (arith, nat_tests))
          ∙ ap (λ n. take n journal) (let e : one ≡ max one other = omega arith in e)
    ]

-- a journal with one more entry shows each reader the same
pub readers-push : (journal : List Entry) (entry : Entry) (readers : List ReaderState)
    → ((reader : ℕ) → (get_or readers reader gone_state).seen ≤ length journal)
    → map (reader_that_saw (journal ++ entry ∷ [])) readers ≡ map (reader_that_saw journal) readers
readers-push journal entry [] seen = refl
readers-push journal entry (reader ∷ readers) seen =
    let here : reader.seen ≤ length journal = seen 0 in
    let same = take-append-le reader.seen journal (entry ∷ []) here in
    let rest = readers-push journal entry readers (λ k. seen (suc k)) in
    cc

-- a reader that stands elsewhere, and has seen as much
pub readers-set : (journal : List Entry) (readers : List ReaderState) (reader : ℕ) (stage : Stage) (old : ReaderState)
    → reader_at (map (reader_that_saw journal) readers) reader ≡ reader_that_saw journal old
    → map (reader_that_saw journal) (set readers reader (record { stage = stage; seen = old.seen }))
    ≡ set (map (reader_that_saw journal) readers) reader (record (reader_at (map (reader_that_saw journal) readers) reader) { stage = stage })
readers-set journal readers reader stage old is =
    map-set (reader_that_saw journal) readers reader (record { stage = stage; seen = old.seen })
    ∙ ap (λ (r : Reader). set (map (reader_that_saw journal) readers) reader (record r { stage = stage })) (sym is)

-- what a state shows after an add
pub view_add : (before : LockCore) (readers : List ReaderState) (reader slot found count : ℕ) (old : ReaderState)
    → map (reader_that_saw before.journal) readers ≡ before.readers
    → found ≡ (slot_at before.slots slot).lock_seq → count ≡ count_at before.counts slot → reader_at before.readers reader ≡ reader_that_saw before.journal old
    → record before {
      counts = set before.counts slot (count + 1);
      readers = map (reader_that_saw before.journal) (set readers reader (record { stage = Holds slot found; seen = old.seen }));
    } ≡ after_add before reader slot
view_add before readers reader slot found count old shown is_found is_count is =
    let moved = readers-set before.journal readers reader (Holds slot found) old (ap (λ (l : List Reader). reader_at l reader) shown ∙ is) in cc

-- what it shows after a sub
pub view_sub : (before : LockCore) (readers : List ReaderState) (reader slot count : ℕ) (old : ReaderState)
    → map (reader_that_saw before.journal) readers ≡ before.readers
    → held_slot before reader ≡ slot → count ≡ count_at before.counts slot → reader_at before.readers reader ≡ reader_that_saw before.journal old
    → record before {
      counts = set before.counts slot (count - 1);
      readers = map (reader_that_saw before.journal) (set readers reader (record { stage = Out; seen = old.seen }));
    } ≡ after_sub before reader
view_sub before readers reader slot count old shown is_slot is_count is =
    let moved = readers-set before.journal readers reader Out old (ap (λ (l : List Reader). reader_at l reader) shown ∙ is) in cc

-- what it shows after a look
pub view_look : (before : LockCore) (readers : List ReaderState) (reader : ℕ) (stage : Stage) (seen : ℕ)
    → map (reader_that_saw before.journal) readers ≡ before.readers → stage ≡ stage_after_look before.seq before.slots (reader_at before.readers reader).stage
    → seen ≡ length before.journal
    → record before { readers = map (reader_that_saw before.journal) (set readers reader (record { stage = stage; seen = seen })) } ≡ after_look before reader
view_look before readers reader stage seen shown is all =
    let whole = take_all seen before.journal (omega arith) in
    let moved = map-set (reader_that_saw before.journal) readers reader (record { stage = stage; seen = seen }) in cc

-- what it shows after a join
pub view_join : (before : LockCore) (readers : List ReaderState) (first second : ℕ) (one other : ReaderState) (stage : Stage)
    → map (reader_that_saw before.journal) readers ≡ before.readers → stage ≡ (reader_at before.readers first).stage
    → reader_at before.readers first ≡ reader_that_saw before.journal one → reader_at before.readers second ≡ reader_that_saw before.journal other
    → one.seen ≤ length before.journal → other.seen ≤ length before.journal
    → record before {
      readers = map (reader_that_saw before.journal) (set (set readers first (record { stage = stage; seen = max one.seen other.seen })) second gone_state);
    } ≡ after_lock_join before first second
view_join before readers first second one other stage shown is_stage is_one is_other below below' =
    let longest = longer-take before.journal one.seen other.seen below below' in
    let inner = map-set (reader_that_saw before.journal) readers first (record { stage = stage; seen = max one.seen other.seen }) in
    let outer = map-set (reader_that_saw before.journal) (set readers first (record { stage = stage; seen = max one.seen other.seen })) second gone_state in
    let part : reader_that_saw before.journal (record { stage = stage; seen = max one.seen other.seen })
    ≡ record (reader_at before.readers first) { seen = longer (reader_at before.readers first).seen (reader_at before.readers second).seen } = cc in
    ap (λ (l : List Reader). record before { readers = l })
    (outer ∙ ap (λ (l : List Reader). set l second gone_reader) (inner
    ∙ ap (λ (r : Reader). set (map (reader_that_saw before.journal) readers) first r) part
    ∙ ap (λ (l : List Reader). set l first (record (reader_at before.readers first) { seen = longer (reader_at before.readers first).seen (reader_at before.readers second).seen })) shown))

-- what it shows at first
pub readers-replicate : (count : ℕ) (reader : ReaderState) → reader.seen ≡ 0
    → map (reader_that_saw []) (replicate count reader) ≡ replicate count (record { stage = reader.stage; seen = [] })
readers-replicate zero reader none = refl
readers-replicate (suc count) reader none =
    let rest = readers-replicate count reader none in let empty = ap (λ n. take n (let e : List Entry = [] in e)) none in cc
