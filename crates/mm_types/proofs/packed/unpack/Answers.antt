-- `unpack` gives what the words are unpacked as.
use Rattle.std.specs.Bool.{then_some}
use Rattle.std.specs.Result.{OkIff, result_ok}
use Rattle.std.proofs.Common.{ℕ, ◌≡◌, ◌<◌, ◌^◌, ◌/◌, ◌∙◌, if◌then◌else◌, sym, refl, Bool, true, false, ◌&&◌, nat_lt, List, [], ◌∷◌, length, get_or, Result, Ok, Err, Some, None, arith}
use Rattle.std.proofs.lemmas.Bool.Decides.{nat_tests}
use Rattle.mm_types.specs.declared.area.Record.{Record}
use Rattle.mm_types.specs.Packed.{is_attached, is_valid, unpacked_record, unpacked}
use Rattle.mm_types.proofs.packed.unpack.Goals as goal
use Rattle.mm_types.proofs.packed.unpack.Goals.{then-is_attached, else-is_attached}

-- an object's number that fits 32 bits is the word
small_object : {E : Type 0} (result : Result ℕ E) (word number : ℕ) → OkIff result (word < 2 ^ 32) word
    → Some number ≡ result_ok result → (word < 2 ^ 32) × (word ≡ number)
small_object (Ok n) word number fits is = (fits.0, cc)
small_object (Err e) word number fits is = absurd (cc)

-- a record by two tests
by_tests : (attached valid test : Bool) (area : Record) → test ≡ (attached && valid)
    → then_some test area ≡ (if attached && (true && valid) then Some area else None)
by_tests true true test area tests = rw tests
by_tests true false test area tests = rw tests
by_tests false valid test area tests = rw tests

-- what four words with such an object are unpacked as, by the tests of the first and of the record
row_unpacked : (words : List ℕ) (area : Record) (test : Bool) → length words ≡ 4 → get_or words 2 0 < 2 ^ 32
    → unpacked_record (get_or words 0 0) (get_or words 1 0) (get_or words 2 0) (get_or words 3 0) ≡ area
    → test ≡ (is_attached (get_or words 0 0) && is_valid area) → then_some test area ≡ unpacked words
unfolding unpacked
row_unpacked [] area test four small fields tests = absurd (cc)
row_unpacked (first ∷ []) area test four small fields tests = absurd (cc)
row_unpacked (first ∷ hi ∷ []) area test four small fields tests = absurd (cc)
row_unpacked (first ∷ hi ∷ object ∷ []) area test four small fields tests = absurd (cc)
row_unpacked (first ∷ hi ∷ object ∷ offset ∷ []) area test four small fields tests =
    let below : nat_lt object 4294967296 ≡ true = grind (arith, nat_tests, small) in
    rw (fields, below) (by_tests (is_attached first) (is_valid area) test area tests)
row_unpacked (first ∷ hi ∷ object ∷ offset ∷ more ∷ rest) area test four small fields tests = absurd (cc)

pub returns : goal.returns
unfolding unpacked_record
returns c = let object = small_object c.try_from.result (get_or c.args.words.now 2 0) c.in_ok-object.object c.try_from.ensures c.in_ok-object.ensures.value in
    let area : Record = record {
      span = record { lo = get_or c.args.words.now 0 0 / 65536; hi = get_or c.args.words.now 1 0 };
      attr = c.attr_of.result;
      object = c.in_ok-object.object;
      offset = get_or c.args.words.now 3 0;
    } in
    let fields : unpacked_record (get_or c.args.words.now 0 0) (get_or c.args.words.now 1 0) (get_or c.args.words.now 2 0) (get_or c.args.words.now 3 0) ≡ area = cc in
    c.then_some.ensures ∙ row_unpacked c.args.words.now area c.if-is_attached.then_some c.told-words object.0 fields
    (elim c.if-is_attached.branch [
      | then-is_attached w ↦ w.then_some-is ∙ w.is_valid.ensures.test ∙ rw (sym c.is_attached.ensures ∙ w.if-is_attached.true) refl
      | else-is_attached w ↦ w.then_some-is ∙ w.if-is_attached.false ∙ rw (sym c.is_attached.ensures ∙ w.if-is_attached.false) refl
    ])
