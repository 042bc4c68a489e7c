-- For `model_verdict` and the plans: what a search along a list says of the element that it finds.
use Rattle.std.proofs.Common.{◌≡◌, ◌&&◌, Bool, true, false, cond, List, [], ◌∷◌, Option, Some, None, refl, All}
use Rattle.std.specs.List.{list_all, find}
use Rattle.std.specs.Option.{option_map_or, unwrap_or}
use Rattle.std.proofs.lemmas.List.Elements.{All-head, All-tail}

found_more : {A : Type 0} (P : A → Type 0) (first found : A) (test : Bool) (rest : Option A) → (test ≡ true → P first) → (rest ≡ Some found → P found)
    → cond test (Some first) rest ≡ Some found → P found
found_more P first found true rest passes before is = let same : first ≡ found = cc in rw (← same) (passes refl)
found_more P first found false rest passes before is = before is

-- it passes the test
pub find_passes : {A : Type 0} (passes : A → Bool) (xs : List A) (found : A) → find passes xs ≡ Some found → passes found ≡ true
find_passes passes [] found is = cc
find_passes passes (x ∷ xs) found is = found_more (λ y. passes y ≡ true) x found (passes x) (find passes xs) (λ e. e) (find_passes passes xs found) is

-- it has what each element has
pub find_keeps : {A : Type 0} (P : A → Type 0) (passes : A → Bool) (xs : List A) (found : A) → All P xs → find passes xs ≡ Some found → P found
find_keeps P passes [] found each is = cc
find_keeps P passes (x ∷ xs) found each is =
    found_more P x found (passes x) (find passes xs) (λ e. All-head P x xs each) (find_keeps P passes xs found (All-tail P x xs each)) is

and_false : (test : Bool) → (test && false) ≡ false
and_false true = refl
and_false false = refl

all_fails_more : {A : Type 0} (holds : A → Bool) (first found : A) (test : Bool) (rest : Option A) (all : Bool) → holds found ≡ false
    → (rest ≡ Some found → all ≡ false) → cond test (Some first) rest ≡ Some found → (holds first && all) ≡ false
all_fails_more holds first found true rest all fails before is = let same : first ≡ found = cc in rw (same, fails)
all_fails_more holds first found false rest all fails before is = rw (before is) (and_false (holds first))

-- where it fails another test, not all pass that
pub find_fails_all : {A : Type 0} (passes holds : A → Bool) (xs : List A) (found : A) → find passes xs ≡ Some found → holds found ≡ false → list_all holds xs ≡ false
find_fails_all passes holds [] found is fails = cc
find_fails_all passes holds (x ∷ xs) found is fails =
    all_fails_more holds x found (passes x) (find passes xs) (list_all holds xs) fails (λ later. find_fails_all passes holds xs found later fails) is

-- the value, or else the default
pub map_or_same : {A : Type 0} (o : Option A) (d : A) → option_map_or (λ x. x) o d ≡ unwrap_or o d
map_or_same (Some x) d = refl
map_or_same None d = refl
