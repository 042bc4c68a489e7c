-- Linux joins only what the profile joins.
use Rattle.std.proofs.Common.{arith}
use Rattle.std.specs.Prelude.{ℕ, ◌≡◌, ◌+◌, ◌-◌, ◌&&◌, ◌||◌, Bool, false, true, if◌then◌else◌, nat_eq, refl}
use Rattle.std.proofs.lemmas.Bool.Decides.{nat_tests}
use Rattle.mm_types.specs.declared.area.Prot.{Prot}
use Rattle.linux_beside.specs.Forgetting.{JoinsOnTheLeft, JoinsOnTheRight, forgotten}
use mathlib.Core.Bool.{beq as same}
use Rattle.area_list.specs.Areas.{joins, same_attr}
use Rattle.linux_rules.specs.Merging.{is_mergeable_anon, same_flags, same_prot}

-- of ten tests that hold, these five hold
flags_agree : (p m s y g a n h k x : Bool) → (p && (m && (s && (y && (g && (a && (n && (h && (k && x))))))))) ≡ true
    → (p && (m && (y && (g && (x && true))))) ≡ true
flags_agree true true true true true true true true true x q = elim x as (λ x. x ≡ true → (x && true) ≡ true) [ true ↦ λ q. refl | false ↦ λ q. q ] q
flags_agree false m s y g a n h k x q = q
flags_agree true false s y g a n h k x q = q
flags_agree true true false y g a n h k x q = grind (arith)
flags_agree true true true false g a n h k x q = q
flags_agree true true true true false a n h k x q = q
flags_agree true true true true true false n h k x q = grind (arith)
flags_agree true true true true true true false h k x q = grind (arith)
flags_agree true true true true true true true false k x q = grind (arith)
flags_agree true true true true true true true true false x q = grind (arith)

-- the offsets run on where they did
runs_on : (file next before offset len : ℕ) → nat_eq file next ≡ true → nat_eq (before + len) offset ≡ true
    → (nat_eq file 0 || nat_eq (if nat_eq next 0 then 0 else offset) ((if nat_eq file 0 then 0 else before) + len)) ≡ true
runs_on file next before offset len same h = grind (arith, nat_tests)

-- a test of two numbers, the other way round
turned : (a b : ℕ) → nat_eq a b ≡ true → nat_eq b a ≡ true
turned a b h = grind (arith, nat_tests)

-- whether two truths are the same, the other way round
same_turned : (a b : Bool) → same a b ≡ same b a
same_turned true true = refl
same_turned true false = refl
same_turned false true = refl
same_turned false false = refl

-- whether two protections are the same, the other way round
same_prot_turned : (a b : Prot) → same_prot a b ≡ same_prot b a
same_prot_turned a b = let r = same_turned a.read b.read in let w = same_turned a.write b.write in let x = same_turned a.exec b.exec in cc

-- five tests from their parts
joined : (touch attr file anon run touch' attr' file' run' : Bool) → (touch ≡ true → touch' ≡ true) → (attr ≡ true → attr' ≡ true)
    → (file ≡ true → file' ≡ true) → (file ≡ true → run ≡ true → run' ≡ true)
    → (touch && ((attr && file) && (anon && run))) ≡ true → (touch' && (attr' && (file' && run'))) ≡ true
joined true true true true true touch' attr' file' run' t f i g h = grind (arith, t refl, f refl, i refl, g refl refl)
joined false attr file anon run touch' attr' file' run' t f i g h = grind (arith)
joined true false file anon run touch' attr' file' run' t f i g h = grind (arith)
joined true true false anon run touch' attr' file' run' t f i g h = grind (arith)
joined true true true false run touch' attr' file' run' t f i g h = grind (arith)
joined true true true true false touch' attr' file' run' t f i g h = grind (arith)

pub joins_on_the_left : JoinsOnTheLeft
unfolding joins
joins_on_the_left rules prev new from h = let a = prev.flags in let b = new.flags in
    joined (nat_eq prev.hi new.lo) (same_flags a b) (nat_eq prev.file new.file) (is_mergeable_anon rules prev new from)
    (nat_eq (prev.pgoff + (prev.hi - prev.lo)) new.pgoff) _ (same_attr (forgotten prev).attr (forgotten new).attr) _ _ (λ t. t)
    (flags_agree (same_prot a.access b.access) (same_prot a.may b.may) (same a.shared b.shared) (same a.mayshare b.mayshare)
    (same a.growsdown b.growsdown) (same a.account b.account) (same a.noreserve b.noreserve) (same a.nohugepage b.nohugepage)
    (same a.pkey b.pkey) (same a.sealed b.sealed)) (λ i. i)
    (runs_on prev.file new.file prev.pgoff new.pgoff (prev.hi - prev.lo)) h

-- the same attributes, the other way round
attr_turned : (p m y g x p' m' y' g' x' : Bool) → p ≡ p' → m ≡ m' → y ≡ y' → g ≡ g' → x ≡ x'
    → (p && (m && (y && (g && (x && true))))) ≡ true → (p' && (m' && (y' && (g' && (x' && true))))) ≡ true
attr_turned p m y g x p' m' y' g' x' ep em ey eg ex h = grind (arith)

pub joins_on_the_right : JoinsOnTheRight
unfolding joins
joins_on_the_right rules next new from h = let a = next.flags in let b = new.flags in
    joined (nat_eq next.lo new.hi) (same_flags a b) (nat_eq next.file new.file) (is_mergeable_anon rules next new from)
    (nat_eq next.pgoff (new.pgoff + (new.hi - new.lo))) _ (same_attr (forgotten new).attr (forgotten next).attr) _ _ (turned next.lo new.hi)
    (λ q. attr_turned (same_prot a.access b.access) (same_prot a.may b.may) (same a.mayshare b.mayshare) (same a.growsdown b.growsdown)
    (same a.sealed b.sealed) (same_prot b.access a.access) (same_prot b.may a.may) (same b.mayshare a.mayshare) (same b.growsdown a.growsdown)
    (same b.sealed a.sealed) (same_prot_turned a.access b.access) (same_prot_turned a.may b.may) (same_turned a.mayshare b.mayshare)
    (same_turned a.growsdown b.growsdown) (same_turned a.sealed b.sealed)
    (flags_agree (same_prot a.access b.access) (same_prot a.may b.may) (same a.shared b.shared) (same a.mayshare b.mayshare)
    (same a.growsdown b.growsdown) (same a.account b.account) (same a.noreserve b.noreserve) (same a.nohugepage b.nohugepage)
    (same a.pkey b.pkey) (same a.sealed b.sealed) q)) (turned next.file new.file)
    (λ same run. runs_on new.file next.file new.pgoff next.pgoff (new.hi - new.lo) (turned next.file new.file same)
    (turned next.pgoff (new.pgoff + (new.hi - new.lo)) run)) h
