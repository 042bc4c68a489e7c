-- For the laws of the step: what it means that no row of a table holds.
use Rattle.std.proofs.Common.{◌≡◌, Bool, true, false, if◌then◌else◌, List, [], ◌∷◌, ◌++◌, Option, Some, None, refl}
use Rattle.std.specs.List.{AllByRecursion as Each}
use Rattle.std.specs.Option.{unwrap_or}
use Rattle.mm_types.specs.declared.call.Errno.{Errno}
use Rattle.mm_types.specs.declared.call.Reply.{Reply}
use Rattle.mm_types.specs.declared.call.Reply.TheVariants.{Refused}
use Rattle.area_rules.specs.Tables.{AddressSpace, Outcome, unless_refused, unless_answered}
use Rattle.mm_types.specs.Rows.{first_row}
use Rattle.area_list.proofs.Elements.{Each-right}

-- where a row and those behind it give no answer, its test fails
row_false : {A : Type 0} (test : Bool) (answer : A) (rest : Option A) → (if test then Some answer else rest) ≡ None
    → (test ≡ false) × (rest ≡ None)
row_false true answer rest h = cc
row_false false answer rest h = (refl, h)

-- each test of a table fails
abbrev pub NoneHolds : {A : Type 0} → List (Bool × A) → Type 0
NoneHolds rows = Each (λ row. row.0 ≡ false) rows

-- where no row is answered, each test fails
pub rows_false : {A : Type 0} (rows : List (Bool × A)) → first_row rows ≡ None → NoneHolds rows
rows_false [] h = tt
rows_false (row ∷ rows) h =
    let parts = row_false row.0 row.1 (first_row rows) h in (parts.0, rows_false rows parts.1)

-- what holds of each refusal, and of the outcome where nothing refuses, holds of the outcome of the call
pub unless_refused_cases : (P : Outcome → Type 0) (space : AddressSpace) (refusal : Option Errno) (done : Outcome)
    → ((errno : Errno) → P (record { space = space; reply = Refused errno })) → (refusal ≡ None → P done)
    → P (unless_refused space refusal done)
unless_refused_cases P space (Some errno) done refused through = refused errno
unless_refused_cases P space None done refused through = through refl

-- and none of the second
pub NoneHolds-right : {A : Type 0} (rows more : List (Bool × A)) → NoneHolds (rows ++ more) → NoneHolds more
NoneHolds-right rows more h = Each-right (λ row. row.0 ≡ false) rows more h

-- a row keeps what holds of those behind it
none_before : {A : Type 0} (test : Bool) (answer : A) (rest fewer : Option A) → (rest ≡ None → fewer ≡ None)
    → (if test then Some answer else rest) ≡ None → (if test then Some answer else fewer) ≡ None
none_before true answer rest fewer step h = h
none_before false answer rest fewer step h = step h

-- where no row of two tables is answered, none of the first is
pub first_row-left : {A : Type 0} (rows more : List (Bool × A)) → first_row (rows ++ more) ≡ None → first_row rows ≡ None
first_row-left [] more h = refl
first_row-left (row ∷ rows) more h =
    none_before row.0 row.1 (first_row (rows ++ more)) (first_row rows) (first_row-left rows more) h

-- Q holds of each answer where its test holds and those before it do not, and what lies behind the table where no test holds
abbrev pub Gives : {A : Type 0} → (A → Type 0) → Type 0 → List (Bool × A) → Type 0
Gives Q behind [] = behind
Gives Q behind (row ∷ rows) = (row.0 ≡ true → Q row.1) × (row.0 ≡ false → Gives Q behind rows)

-- one row more, by its test
given_more : {A : Type 0} (P : A → Type 0) (test : Bool) (answer done : A) (rest : Option A) → (test ≡ true → P answer)
    → (test ≡ false → P (unwrap_or rest done)) → P (unwrap_or (if test then Some answer else rest) done)
given_more P true answer done rest here later = here refl
given_more P false answer done rest here later = later refl

-- so what each row gives holds of the answer of the first row that holds, or else of what lies behind the table
pub first_row-gives : {A : Type 0} (P : A → Type 0) (rows : List (Bool × A)) (done : A) → Gives P (P done) rows
    → P (unwrap_or (first_row rows) done)
first_row-gives P [] done gives = gives
first_row-gives P (row ∷ rows) done gives =
    given_more P row.0 row.1 done (first_row rows) gives.0 (λ fails. first_row-gives P rows done (gives.1 fails))

-- one row more, by its test
answered_more : (P : Outcome → Type 0) (space : AddressSpace) (test : Bool) (answer : Reply) (done : Outcome) (rest : Option Reply)
    → (test ≡ true → P (record { space = space; reply = answer })) → (test ≡ false → P (unless_answered space rest done))
    → P (unless_answered space (if test then Some answer else rest) done)
answered_more P space true answer done rest here later = here refl
answered_more P space false answer done rest here later = later refl

-- and so of the outcome of a call whose rows answer and change nothing
pub unless_answered-gives : (P : Outcome → Type 0) (space : AddressSpace) (rows : List (Bool × Reply)) (done : Outcome)
    → Gives (λ answer. P (record { space = space; reply = answer })) (P done) rows → P (unless_answered space (first_row rows) done)
unless_answered-gives P space [] done gives = gives
unless_answered-gives P space (row ∷ rows) done gives =
    answered_more P space row.0 row.1 done (first_row rows) gives.0
    (λ fails. unless_answered-gives P space rows done (gives.1 fails))
