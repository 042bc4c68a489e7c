-- Serves `tell_round`: what its loop keeps.
use Rattle.std.proofs.Common.{ℕ, zero, suc, ◌≡◌, ◌+◌, ◌-◌, ◌<◌, ◌≤◌, ◌∙◌, refl, sym, ap, subst, cond, Bool, ◌&&◌, nat_eq, nat_le, List, [], ◌∷◌, length, get_or, set, slice_get, All, Some, arith, inl, inr}
use Rattle.std.proofs.lemmas.Bool.{cases_lt, cases_eq, eq-eqb, ne_eqb}
use Rattle.std.proofs.lemmas.Bool.Decides.{nat_tests}
use Rattle.std.proofs.lemmas.List.{length-set, get_or-set_same, get_or-set_other, append-nil}
use Rattle.std.proofs.lemmas.List.Elements.{All-weaker}
use Rattle.std.proofs.lemmas.List.Sums.{sum_by-cons}
use Rattle.std.proofs.lemmas.Option.{slice_get_within, slice_get-get_or, same_Some}
use Rattle.history.specs.declared.items.Item.{Item}
use Rattle.fault_path.specs.Passes.{PassView, seen_by, IsLater}
use Rattle.mm_space.specs.Names.{SpaceId, ArePasses}
use Rattle.vma_drive.specs.declared.rounds.Telling.{Telling}
use Rattle.vma_drive.specs.Hearing.{own_by}
use Rattle.vma_drive.specs.Internal.Rounds.{IsMoved, tells_from}
use Rattle.vma_drive.proofs.Operations.{later_on, no_later}
use Rattle.vma_drive.proofs.Growing.{grew_on, grew_still, longer_seen}

abbrev pub Bit : Bool → ℕ
Bit t = cond t 1 0

abbrev One : ℕ → ℕ → Telling → ℕ
One round caller t = Bit (nat_le round t.round && nat_eq t.teller caller)

-- how often a caller tells from a round on, but for the first tellings from the next one on
pub mixed : ℕ → ℕ → ℕ → List Telling → ℕ
mixed round caller k [] = 0
mixed round caller zero (t ∷ ts) = One round caller t + mixed round caller zero ts
mixed round caller (suc k) (t ∷ ts) = One (round + 1) caller t + mixed round caller k ts

pub mixed_first : (round caller : ℕ) (ts : List Telling) → mixed round caller 0 ts ≡ tells_from round caller ts
unfolding mixed
mixed_first round caller [] = refl
mixed_first round caller (t ∷ ts) =
    ap (λ (n : ℕ). One round caller t + n) (mixed_first round caller ts) ∙ sym (sum_by-cons (One round caller) t ts)

pub mixed_last : (round caller k : ℕ) (ts : List Telling) → length ts ≤ k → mixed round caller k ts ≡ tells_from (round + 1) caller ts
unfolding mixed
mixed_last round caller k [] past = refl
mixed_last round caller zero (t ∷ ts) past = absurd (omega arith)
mixed_last round caller (suc k) (t ∷ ts) past =
    ap (λ (n : ℕ). One (round + 1) caller t + n) (mixed_last round caller k ts (omega arith)) ∙ sym (sum_by-cons (One (round + 1) caller) t ts)

one_told : (round caller : ℕ) (t : Telling) → t.round ≡ round → One round caller t ≡ One (round + 1) caller t + Bit (nat_eq t.teller caller)
one_told round caller t now = grind (arith, nat_tests)

one_skipped : (round caller : ℕ) (t : Telling) → (t.round ≡ round → ⊥) → One round caller t ≡ One (round + 1) caller t
one_skipped round caller t other = grind (arith, nat_tests)

told_at : (round caller k : ℕ) (ts : List Telling) (t : Telling) → t.round ≡ round → slice_get ts k ≡ Some t
    → mixed round caller k ts ≡ mixed round caller (suc k) ts + Bit (nat_eq t.teller caller)
unfolding mixed
told_at round caller k [] t now found = absurd (omega (arith, slice_get_within [] k t found))
told_at round caller zero (s ∷ ts) t now found =
    let same : s ≡ t = same_Some s t found in
    let here : One round caller s ≡ One (round + 1) caller s + Bit (nat_eq s.teller caller) = one_told round caller s (ap (λ (x : Telling). x.round) same ∙ now) in
    let teller : Bit (nat_eq s.teller caller) ≡ Bit (nat_eq t.teller caller) = ap (λ (x : Telling). Bit (nat_eq x.teller caller)) same in
    sums (One round caller s) (One (round + 1) caller s) (Bit (nat_eq s.teller caller)) (Bit (nat_eq t.teller caller)) (mixed round caller 0 ts) here teller
  where
    sums : (a b c d rest : ℕ) → a ≡ b + c → c ≡ d → a + rest ≡ b + rest + d
    sums a b c d rest one two = omega arith
told_at round caller (suc k) (s ∷ ts) t now found =
    ap (λ (n : ℕ). One (round + 1) caller s + n) (told_at round caller k ts t now found)
    ∙ assoc (One (round + 1) caller s) (mixed round caller (suc k) ts) (Bit (nat_eq t.teller caller))
  where
    assoc : (a b c : ℕ) → a + (b + c) ≡ a + b + c
    assoc a b c = omega arith

pub mixed_told : (round caller k m : ℕ) (ts : List Telling) (t : Telling) → slice_get ts k ≡ Some t → t.round ≡ round → m ≡ suc k
    → mixed round caller k ts ≡ mixed round caller m ts + Bit (nat_eq t.teller caller)
mixed_told round caller k m ts t found now next =
    told_at round caller k ts t now found ∙ ap (λ (n : ℕ). mixed round caller n ts + Bit (nat_eq t.teller caller)) (sym next)

skipped_at : (round caller k : ℕ) (ts : List Telling) (t : Telling) → (t.round ≡ round → ⊥) → slice_get ts k ≡ Some t
    → mixed round caller k ts ≡ mixed round caller (suc k) ts
unfolding mixed
skipped_at round caller k [] t other found = absurd (omega (arith, slice_get_within [] k t found))
skipped_at round caller zero (s ∷ ts) t other found =
    let same : s ≡ t = same_Some s t found in
    ap (λ (n : ℕ). n + mixed round caller 0 ts) (one_skipped round caller s (λ now. other (ap (λ (x : Telling). x.round) (sym same) ∙ now)))
skipped_at round caller (suc k) (s ∷ ts) t other found = ap (λ (n : ℕ). One (round + 1) caller s + n) (skipped_at round caller k ts t other found)

pub mixed_skipped : (round caller k m : ℕ) (ts : List Telling) (t : Telling) → slice_get ts k ≡ Some t → (t.round ≡ round → ⊥) → m ≡ suc k
    → mixed round caller k ts ≡ mixed round caller m ts
mixed_skipped round caller k m ts t found other next = skipped_at round caller k ts t other found ∙ ap (λ (n : ℕ). mixed round caller n ts) (sym next)

-- nothing moved
pub no_move : (pass : PassView) → IsMoved pass pass
no_move pass = record {
  later = no_later pass;
  grew = grew_still pass;
}

pub move_on : (old mid new : PassView) → IsMoved old mid → IsMoved mid new → IsMoved old new
move_on old mid new one two = record {
  later = later_on old mid new one.later two.later;
  grew = grew_on old mid new [] [] one.later one.grew two.grew;
}

-- the first tellings of a round were told
pub record ToldTo (name : SpaceId) (tellings : List Telling) (olds news : List PassView) (before owed : List ℕ)
    (round k : ℕ) : Type 0 where
  pub passes_are : ArePasses name news
  pub all : length news ≡ length olds
  pub owed_all : length owed ≡ length olds
  pub moved : (caller : ℕ) (old new : PassView) → slice_get olds caller ≡ Some old → slice_get news caller ≡ Some new
      → IsMoved old new × (new.left + get_or before caller 0 ≡ old.left + get_or owed caller 0)
  pub count : (caller : ℕ) → caller < length olds
      → get_or owed caller 0 + mixed round caller 0 tellings ≡ get_or before caller 0 + mixed round caller k tellings
  pub heard : (index : ℕ) (telling : Telling) (teller hearer : PassView) → index < k → slice_get tellings index ≡ Some telling → telling.round ≡ round
      → slice_get olds telling.teller ≡ Some teller → slice_get news telling.hearer ≡ Some hearer
      → All (λ (said : Item). said.version ≤ length (seen_by hearer)) (own_by teller)

module _ (name : SpaceId) (tellings : List Telling) (olds : List PassView) (before : List ℕ) (round : ℕ) where
  pub told_none : ArePasses name olds → length before ≡ length olds
      → ToldTo name tellings olds olds before before round 0
  told_none are all = record {
    passes_are = are;
    all = refl;
    owed_all = all;
    moved = λ caller old new found got.
        let same : old ≡ new = same_Some old new (sym found ∙ got) in
        (subst (λ (p : PassView). IsMoved old p) same (no_move old), ap (λ (p : PassView). p.left + get_or before caller 0) (sym same));
    count = λ caller within. refl;
    heard = λ index telling teller hearer none. absurd (omega arith);
  }

  pub told_skip : (news : List PassView) (owed : List ℕ) (k m : ℕ) (t : Telling) → ToldTo name tellings olds news before owed round k
      → slice_get tellings k ≡ Some t → (t.round ≡ round → ⊥) → m ≡ suc k → ToldTo name tellings olds news before owed round m
  told_skip news owed k m t told found other next = record {
    passes_are = told.passes_are;
    all = told.all;
    owed_all = told.owed_all;
    moved = told.moved;
    count = λ caller within. told.count caller within ∙ ap (λ (n : ℕ). get_or before caller 0 + n) (mixed_skipped round caller k m tellings t found other next);
    heard = λ index telling teller hearer low at now. elim (cases_lt index k) [
      | inl early ↦ told.heard index telling teller hearer early at now
      | inr late ↦
          let here : index ≡ k = omega (arith, low, next) in
          let same : telling ≡ t = same_Some telling t (sym at ∙ ap (λ (n : ℕ). slice_get tellings n) here ∙ found) in
          absurd (other (ap (λ (x : Telling). x.round) (sym same) ∙ now))
    ];
  }

  -- a teller can tell
  pub may_tell : (news : List PassView) (owed : List ℕ) (k : ℕ) (t : Telling) → ToldTo name tellings olds news before owed round k
      → slice_get tellings k ≡ Some t → t.round ≡ round → t.teller < length olds
      → ((caller : ℕ) (pass : PassView) → slice_get olds caller ≡ Some pass → (pass.left ≤ get_or before caller 0) × (tells_from round caller tellings ≤ pass.left))
      → (1 ≤ get_or owed t.teller 0) × ((pass : PassView) → slice_get news t.teller ≡ Some pass → 1 ≤ pass.left)
  may_tell news owed k t told found now within left =
      let step = mixed_told round t.teller k (suc k) tellings t found now refl in
      let one : Bit (nat_eq t.teller t.teller) ≡ 1 = ap Bit (eq-eqb t.teller t.teller refl) in
      let first = mixed_first round t.teller tellings in
      let count = told.count t.teller within in
      let old_at : (d : PassView) → slice_get olds t.teller ≡ Some (get_or olds t.teller d) = λ d. slice_get-get_or olds t.teller d within in
      let some : PassView = first_of olds within in
      let has = left t.teller (get_or olds t.teller some) (old_at some) in (
        omega (arith, step, one, first, count, has.0, has.1),
        λ pass its.
            let move = (told.moved t.teller (get_or olds t.teller some) pass (old_at some) its).1 in
            omega (arith, step, one, first, count, has.0, has.1, move),
      )
    where
      first_of : (olds : List PassView) → t.teller < length olds → PassView
      first_of [] none = absurd (omega arith)
      first_of (pass ∷ rest) within = pass

  -- what one telling does
  pub record Tell (mids news : List PassView) (t : Telling) : Type 0 where
    pub passes_are : ArePasses name news
    pub all : length news ≡ length mids
    pub moved : (caller : ℕ) (mid new : PassView) → slice_get mids caller ≡ Some mid → slice_get news caller ≡ Some new
        → IsMoved mid new × (new.left + Bit (nat_eq caller t.teller) ≡ mid.left)
    pub heard : (told heard : PassView) → slice_get mids t.teller ≡ Some told → slice_get news t.hearer ≡ Some heard
        → All (λ (said : Item). said.version ≤ length (seen_by heard)) (own_by told)

  paid_at : (owed : List ℕ) (teller caller : ℕ) → teller < length owed → 1 ≤ get_or owed teller 0
      → get_or (set owed teller (get_or owed teller 0 - 1)) caller 0 + Bit (nat_eq caller teller) ≡ get_or owed caller 0
  paid_at owed teller caller within some = elim (cases_eq caller teller) [
    | inl same ↦
        let new : get_or (set owed teller (get_or owed teller 0 - 1)) caller 0 ≡ get_or owed teller 0 - 1 =
        ap (λ (n : ℕ). get_or (set owed teller (get_or owed teller 0 - 1)) n 0) same ∙ get_or-set_same owed teller (get_or owed teller 0 - 1) 0 within in
        let one : Bit (nat_eq caller teller) ≡ 1 = ap Bit (eq-eqb caller teller same) in
        let old : get_or owed caller 0 ≡ get_or owed teller 0 = ap (λ (n : ℕ). get_or owed n 0) same in
        omega (arith, new, one, old, some)
    | inr other ↦
        let new : get_or (set owed teller (get_or owed teller 0 - 1)) caller 0 ≡ get_or owed caller 0 =
        get_or-set_other owed teller caller (get_or owed teller 0 - 1) 0 other in
        let none : Bit (nat_eq caller teller) ≡ 0 = ap Bit (ne_eqb caller teller other) in
        omega (arith, new, none)
  ]

  alike : (a b : ℕ) → Bit (nat_eq a b) ≡ Bit (nat_eq b a)
  alike a b = grind (arith, nat_tests)

  pub told_more : (mids news : List PassView) (owed : List ℕ) (k m : ℕ) (t : Telling)
      → ToldTo name tellings olds mids before owed round k
      → slice_get tellings k ≡ Some t → t.round ≡ round → m ≡ suc k → t.teller < length olds → 1 ≤ get_or owed t.teller 0 → Tell mids news t
      → ToldTo name tellings olds news before (set owed t.teller (get_or owed t.teller 0 - 1)) round m
  told_more mids news owed k m t told found now next within some tell =
      let paid = λ (caller : ℕ). paid_at owed t.teller caller (omega (arith, told.owed_all)) some in
      let mid_at : (caller : ℕ) (new : PassView) → slice_get news caller ≡ Some new → slice_get mids caller ≡ Some (get_or mids caller new) =
      λ caller new its. slice_get-get_or mids caller new (omega (arith, slice_get_within news caller new its, tell.all)) in
      record {
        passes_are = tell.passes_are;
        all = tell.all ∙ told.all;
        owed_all = length-set owed t.teller (get_or owed t.teller 0 - 1) ∙ told.owed_all;
        moved = λ caller old new was its.
            let mid : PassView = get_or mids caller new in
            let one = told.moved caller old mid was (mid_at caller new its) in
            let two = tell.moved caller mid new (mid_at caller new its) its in
            (move_on old mid new one.0 two.0, omega (arith, one.1, two.1, paid caller));
        count = λ caller inside. omega (arith, told.count caller inside, mixed_told round caller k m tellings t found now next, paid caller, alike caller t.teller);
        heard = λ index telling teller hearer low at is was its.
            let mid : PassView = get_or mids telling.hearer hearer in
            let later : IsLater mid hearer = (tell.moved telling.hearer mid hearer (mid_at telling.hearer hearer its) its).0.later in
            let longer = longer_seen mid hearer later in
            elim (cases_lt index k) [
              | inl early ↦
                  All-weaker (λ (said : Item). said.version ≤ length (seen_by mid)) (λ (said : Item). said.version ≤ length (seen_by hearer))
                  (λ said below. omega (arith, below, longer)) (own_by teller)
                  (told.heard index telling teller mid early at is was (mid_at telling.hearer hearer its))
              | inr late ↦
                  let here : index ≡ k = omega (arith, low, next) in
                  let same : t ≡ telling = same_Some t telling (sym found ∙ ap (λ (n : ℕ). slice_get tellings n) (sym here) ∙ at) in
                  let spoke : PassView = get_or mids telling.teller teller in
                  let spoke_at : slice_get mids telling.teller ≡ Some spoke =
                  slice_get-get_or mids telling.teller teller (omega (arith, told.all, slice_get_within olds telling.teller teller was)) in
                  let kept : own_by spoke ≡ own_by teller = (told.moved telling.teller teller spoke was spoke_at).0.grew.own ∙ append-nil (own_by teller) in
                  subst (λ (l : List Item). All (λ (said : Item). said.version ≤ length (seen_by hearer)) l) kept
                  (tell.heard spoke hearer (ap (λ (x : Telling). slice_get mids x.teller) same ∙ spoke_at) (ap (λ (x : Telling). slice_get news x.hearer) same ∙ its))
            ];
      }

  pub told_all : (news : List PassView) (owed : List ℕ) (k : ℕ) → ToldTo name tellings olds news before owed round k
      → length tellings ≤ k → (caller : ℕ) → caller < length olds
      → get_or owed caller 0 + tells_from round caller tellings ≡ get_or before caller 0 + tells_from (round + 1) caller tellings
  told_all news owed k told past caller within =
      omega (arith, told.count caller within, mixed_first round caller tellings, mixed_last round caller k tellings past)
