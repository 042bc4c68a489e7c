-- Serves `tellings_of`: what its loop keeps.
use Rattle.std.proofs.Common.{ℕ, zero, suc, ◌≡◌, ◌+◌, ◌<◌, ◌≤◌, ◌∙◌, refl, sym, ap, subst, cond, Bool, nat_eq, List, [], ◌∷◌, ◌++◌, length, take, get_or, slice_get, All, count_by, Some, None, arith, inl, inr}
use Rattle.std.proofs.lemmas.Bool.{cases_lt}
use Rattle.std.proofs.lemmas.List.{take_all}
use Rattle.std.proofs.lemmas.List.Elements.{All-push}
use Rattle.std.proofs.lemmas.List.Sums.{sum_by_push}
use Rattle.std.proofs.lemmas.Option.{slice_get_within, slice_get-get_or, get_or_from_slice_get, same_Some, none-some}
use Rattle.trace_reader.specs.declared.trace.TraceLine.{TraceLine}
use Rattle.trace_reader.specs.Values.{AreNumbered}
use Rattle.history.specs.Histories.{caller_of}
use Rattle.history.specs.CallerPlaces.{callers_of}
use Rattle.history.specs.declared.callers.TheConstants.{MOST_THREADS}
use Rattle.history.proofs.Placing.{caller_at}
use Rattle.vma_drive.specs.declared.rounds.Telling.{Telling}
use Rattle.vma_drive.specs.Naming.{HasNumber, NamesAt, names_caller}
use Rattle.vma_drive.specs.Internal.Rounds.{AreTellings}
use Rattle.vma_drive.proofs.NamedLines.{one_named, names_at, names_its, names_none, counted}

-- the tellings of the first lines
pub record ToldOf (lines : List TraceLine) (rounds : List ℕ) (tellings : List Telling) (place : ℕ) : Type 0 where
  pub callers : All (λ (t : Telling). (t.teller < callers_of lines) × (t.hearer < callers_of lines)) tellings
  pub each : (at said : ℕ) → at < place → (names : NamesAt lines at said) → (index : ℕ) × (slice_get tellings index ≡ Some (record {
    round = get_or rounds at 0;
    teller = caller_of lines names.other.thread;
    hearer = caller_of lines names.line.thread;
  }))
  pub told : (caller : ℕ) → count_by (λ (t : Telling). nat_eq t.teller caller) tellings ≡ count_by (names_caller lines caller) (take place lines)

pub told_of_skip : (lines : List TraceLine) (rounds : List ℕ) (tellings : List Telling) (place : ℕ) (line : TraceLine)
    → ToldOf lines rounds tellings place → slice_get lines place ≡ Some line → line.after ≡ None → ToldOf lines rounds tellings (place + 1)
told_of_skip lines rounds tellings place line to found none = record {
  callers = to.callers;
  each = λ at said inside names. elim (cases_lt at place) [
    | inl early ↦ to.each at said early names
    | inr past ↦
        let one : at ≡ place = omega (arith, inside, past) in
        let same : line ≡ names.line = same_Some line names.line (sym found ∙ ap (slice_get lines) (sym one) ∙ names.stands) in
        absurd (neither names.other.number (sym none ∙ ap (λ (l : TraceLine). l.after) same ∙ names.after))
  ];
  told = λ caller. to.told caller ∙ plus (count_by (names_caller lines caller) (take place lines))
      ∙ ap (λ (b : Bool). count_by (names_caller lines caller) (take place lines) + cond b 1 0) (sym (names_none lines caller line none))
      ∙ sym (counted lines place caller line found);
}
  where
    neither : (said : ℕ) → None ≡ Some said → ⊥
    neither said same = none-some said same

    plus : (n : ℕ) → n ≡ n + 0
    plus n = omega arith

at_end : {X : Type 0} (xs : List X) (x : X) → slice_get (xs ++ x ∷ []) (length xs) ≡ Some x
at_end [] x = refl
at_end (y ∷ ys) x = at_end ys x

in_front : {X : Type 0} (xs : List X) (x y : X) (k : ℕ) → slice_get xs k ≡ Some y → slice_get (xs ++ x ∷ []) k ≡ Some y
in_front [] x y k found = absurd (omega (arith, slice_get_within [] k y found))
in_front (z ∷ zs) x y zero found = found
in_front (z ∷ zs) x y (suc k) found = in_front zs x y k found

made : ℕ → ℕ → ℕ → Telling
made round teller hearer = record { round = round; teller = teller; hearer = hearer }

telling_is : (t : Telling) (round teller hearer : ℕ) → t.round ≡ round → t.teller ≡ teller → t.hearer ≡ hearer
    → t ≡ record { round = round; teller = teller; hearer = hearer }
unfolding made
telling_is t round teller hearer one two three =
    ap (λ (n : ℕ). made n t.teller t.hearer) one ∙ ap (λ (n : ℕ). made round n t.hearer) two ∙ ap (λ (n : ℕ). made round teller n) three

told_of_more : (lines : List TraceLine) (rounds : List ℕ) (tellings : List Telling) (place said : ℕ) (t : Telling)
    → AreNumbered lines → ToldOf lines rounds tellings place → (at : NamesAt lines place said) → t.round ≡ get_or rounds place 0
    → t.teller ≡ caller_of lines at.other.thread → t.hearer ≡ caller_of lines at.line.thread
    → t.teller < callers_of lines → t.hearer < callers_of lines
    → ToldOf lines rounds (tellings ++ t ∷ []) (place + 1)
told_of_more lines rounds tellings place said t numbered to at round teller hearer low lower = record {
  callers = All-push (λ (t : Telling). (t.teller < callers_of lines) × (t.hearer < callers_of lines)) tellings t to.callers (low, lower);
  each = λ place' said' inside names. elim (cases_lt place' place) [
    | inl early ↦ let old = to.each place' said' early names in (old.0, in_front tellings t _ old.0 old.1)
    | inr past ↦
        let one : place' ≡ place = omega (arith, inside, past) in
        let there : NamesAt lines place said' = subst (λ (n : ℕ). NamesAt lines n said') one names in
        let same : said ≡ said' = one_named lines numbered place said said' at there in
        let mine : at.line ≡ names.line = same_Some at.line names.line (sym at.stands ∙ ap (slice_get lines) (sym one) ∙ names.stands) in
        let yours : at.other ≡ names.other = same_Some at.other names.other (sym at.there ∙ ap (slice_get lines) same ∙ names.there) in
        let by : t.teller ≡ caller_of lines names.other.thread = teller ∙ ap (λ (l : TraceLine). caller_of lines l.thread) yours in
        let to_is : t.hearer ≡ caller_of lines names.line.thread = hearer ∙ ap (λ (l : TraceLine). caller_of lines l.thread) mine in
        let when : t.round ≡ get_or rounds place' 0 = round ∙ ap (λ (n : ℕ). get_or rounds n 0) (sym one) in (
          length tellings,
          at_end tellings t
              ∙ ap Some (telling_is t (get_or rounds place' 0) (caller_of lines names.other.thread) (caller_of lines names.line.thread) when by to_is),
        )
  ];
  told = λ caller.
      sum_by_push (λ (t : Telling). cond (nat_eq t.teller caller) 1 0) tellings t
      ∙ ap (λ (n : ℕ). n + cond (nat_eq t.teller caller) 1 0) (to.told caller)
      ∙ ap (λ (b : Bool). count_by (names_caller lines caller) (take place lines) + cond b 1 0)
      (ap (λ (n : ℕ). nat_eq n caller) teller ∙ sym (names_its lines place said caller numbered at))
      ∙ sym (counted lines place caller at.line at.stands);
}

-- the telling of the next line is added
pub told_of_push : (lines : List TraceLine) (rounds : List ℕ) (tellings pushed : List Telling) (place number said teller hearer : ℕ)
    (d e : TraceLine) → AreNumbered lines → All (λ (line : TraceLine). line.thread < MOST_THREADS) lines
    → ToldOf lines rounds tellings place → place < length lines → (get_or lines place e).after ≡ Some number → HasNumber lines number said
    → teller ≡ caller_of lines (get_or lines said d).thread → hearer ≡ caller_of lines (get_or lines place e).thread
    → pushed ≡ tellings ++ record { round = get_or rounds place 0; teller = teller; hearer = hearer } ∷ []
    → ToldOf lines rounds pushed (place + 1)
told_of_push lines rounds tellings pushed place number said teller hearer d e numbered threads to within after has from_is to_is push =
    let here : slice_get lines place ≡ Some (get_or lines place e) = slice_get-get_or lines place e within in
    let at : NamesAt lines place said = names_at lines place said (get_or lines place e) number here after has in
    let early : said < length lines = slice_get_within lines said has.0 has.1 in
    let other : get_or lines said d ≡ has.0 = get_or_from_slice_get lines said has.0 d has.1 in
    subst (λ (l : List Telling). ToldOf lines rounds l (place + 1)) (sym push)
    (told_of_more lines rounds tellings place said
    (record { round = get_or rounds place 0; teller = teller; hearer = hearer }) numbered to at refl
    (from_is ∙ ap (λ (l : TraceLine). caller_of lines l.thread) other) to_is
    (caller_at lines said (callers_of lines) d teller early threads refl from_is) (caller_at lines place (callers_of lines) e hearer within threads refl to_is))

pub told_of_all : (lines : List TraceLine) (rounds : List ℕ) (tellings : List Telling) (place : ℕ)
    → ToldOf lines rounds tellings place → length lines ≤ place → AreTellings lines rounds tellings
told_of_all lines rounds tellings place to past = record {
  callers = to.callers;
  each = λ at said names. to.each at said (omega (arith, past, slice_get_within lines at names.line names.stands)) names;
  told = λ caller. to.told caller ∙ ap (count_by (names_caller lines caller)) (take_all place lines past);
}
