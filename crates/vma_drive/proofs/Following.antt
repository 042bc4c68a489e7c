-- Serves `drive`: what a named line's item and that of the line that names it come to in a round.
use Rattle.std.proofs.Common.{ℕ, zero, suc, ◌≡◌, ◌+◌, ◌<◌, ◌≤◌, ◌∙◌, refl, sym, ap, cond, Bool, true, false, nat_eq, List, [], ◌∷◌, ◌++◌, length, filter, get_or, slice_get, All, Some, arith, inl, inr}
use Rattle.std.specs.Prelude.{Vec}
use Rattle.std.specs.declared.alloc.Global.{Global}
use Rattle.std.proofs.lemmas.Bool.{cases_lt}
use Rattle.std.proofs.lemmas.List.{append-nil}
use Rattle.std.proofs.lemmas.Option.{none-some, slice_get_within, slice_get-get_or}
use Rattle.trace_reader.specs.declared.trace.TraceLine.{TraceLine}
use Rattle.trace_reader.specs.Values.{AreNumbered}
use Rattle.history.proofs.LineAnswers.{AreToldAt, told_at, told_from}
use Rattle.history.specs.declared.items.Item.{Item}
use Rattle.history.specs.Histories.{caller_of, lines_of, is_call}
use Rattle.history.specs.CallerPlaces.{ArePlaces, StandAt}
use Rattle.history.proofs.Lists.{at_place, get_past}
use Rattle.history.proofs.Numbers.{one_place, own_place}
use Rattle.fault_path.specs.Passes.{PassView, seen_by, IsLater}
use Rattle.vma_drive.specs.declared.rounds.Telling.{Telling}
use Rattle.vma_drive.specs.Hearing.{own_by, AreToldBy, IsLate}
use Rattle.vma_drive.specs.Naming.{NamesAt}
use Rattle.vma_drive.specs.Internal.Rounds.{AreRounds, AreTellings, RanLowerRounds, RanRound, IsMoved}
use Rattle.vma_drive.proofs.OwnLines.{OwnAt, own_at, same_length}

get_front : {X : Type 0} (xs ys : List X) (i : ℕ) (x : X) → i < length xs → slice_get (xs ++ ys) i ≡ Some x → slice_get xs i ≡ Some x
get_front [] ys i x within found = absurd (omega arith)
get_front (first ∷ xs) ys zero x within found = found
get_front (first ∷ xs) ys (suc i) x within found = get_front xs ys i x (omega arith) found

-- what a filter lets through stands in the list
at_cond : {X : Type 0} (p : X → Bool) (y : X) (ys : List X) (t : Bool) (i : ℕ) (x : X)
    → ((j : ℕ) → slice_get (filter p ys) j ≡ Some x → (k : ℕ) × (slice_get ys k ≡ Some x))
    → slice_get (cond t (y ∷ filter p ys) (filter p ys)) i ≡ Some x → (k : ℕ) × (slice_get (y ∷ ys) k ≡ Some x)
at_cond p y ys true zero x rest found = (0, found)
at_cond p y ys true (suc i) x rest found = let its = rest i found in (suc its.0, its.1)
at_cond p y ys false i x rest found = let its = rest i found in (suc its.0, its.1)

filter_at : {X : Type 0} (p : X → Bool) (xs : List X) (i : ℕ) (x : X) → slice_get (filter p xs) i ≡ Some x → (k : ℕ) × (slice_get xs k ≡ Some x)
filter_at p [] i x found = absurd (none-some x found)
filter_at p (y ∷ ys) i x found = at_cond p y ys (p y) i x (λ j got. filter_at p ys j x got) found

-- nothing stands twice
abbrev Distinct : {X : Type 0} → List X → Type 0
Distinct {X} xs = (a b : ℕ) (x : X) → slice_get xs a ≡ Some x → slice_get xs b ≡ Some x → a ≡ b

distinct : (lines : List TraceLine) → AreNumbered lines → Distinct lines
distinct lines numbered a b line one two = one_place lines numbered a b line line one two refl

-- where nothing stands twice, what a filter lets through stands in the same order
order_cond : {X : Type 0} (p : X → Bool) (z : X) (zs : List X) (t : Bool) → Distinct (z ∷ zs)
    → ((i j a b : ℕ) (x y : X) → i < j → slice_get (filter p zs) i ≡ Some x → slice_get (filter p zs) j ≡ Some y → slice_get zs a ≡ Some x
    → slice_get zs b ≡ Some y → a < b)
    → (i j a b : ℕ) (x y : X) → i < j → slice_get (cond t (z ∷ filter p zs) (filter p zs)) i ≡ Some x
    → slice_get (cond t (z ∷ filter p zs) (filter p zs)) j ≡ Some y → slice_get (z ∷ zs) a ≡ Some x → slice_get (z ∷ zs) b ≡ Some y → a < b
order_cond p z zs true apart rest i zero a b x y less fi fj ga gb = absurd (omega arith)
order_cond p z zs true apart rest zero (suc j) a b x y less fi fj ga gb =
    let at = filter_at p zs j y fj in
    let first : a ≡ 0 = apart a 0 x ga fi in
    let second : b ≡ suc at.0 = apart b (suc at.0) y gb at.1 in
    omega (arith, first, second)
order_cond p z zs true apart rest (suc i) (suc j) a b x y less fi fj ga gb =
    let one = filter_at p zs i x fi in
    let two = filter_at p zs j y fj in
    let first : a ≡ suc one.0 = apart a (suc one.0) x ga one.1 in
    let second : b ≡ suc two.0 = apart b (suc two.0) y gb two.1 in
    omega (arith, first, second, rest i j one.0 two.0 x y (omega arith) fi fj one.1 two.1)
order_cond p z zs false apart rest i j a b x y less fi fj ga gb =
    let one = filter_at p zs i x fi in
    let two = filter_at p zs j y fj in
    let first : a ≡ suc one.0 = apart a (suc one.0) x ga one.1 in
    let second : b ≡ suc two.0 = apart b (suc two.0) y gb two.1 in
    omega (arith, first, second, rest i j one.0 two.0 x y less fi fj one.1 two.1)

order : {X : Type 0} (p : X → Bool) (xs : List X) → Distinct xs → (i j a b : ℕ) (x y : X) → i < j → slice_get (filter p xs) i ≡ Some x
    → slice_get (filter p xs) j ≡ Some y → slice_get xs a ≡ Some x → slice_get xs b ≡ Some y → a < b
order p [] apart i j a b x y less fi fj ga gb = absurd (none-some x fi)
order p (z ∷ zs) apart i j a b x y less fi fj ga gb =
    order_cond p z zs (p z) apart (order p zs (λ c d w gc gd. let same : suc c ≡ suc d = apart (suc c) (suc d) w gc gd in omega (arith, same)))
    i j a b x y less fi fj ga gb

-- the lines of a caller are of it
own_caller : (lines : List TraceLine) (caller index : ℕ) (line : TraceLine) → slice_get (lines_of lines caller) index ≡ Some line
    → caller_of lines line.thread ≡ caller
own_caller lines caller index line found = (own_place lines caller index line found).2

-- their rounds rise
own_rises : (lines : List TraceLine) (rounds : List ℕ) (caller : ℕ) (places : List ℕ) (a b : ℕ) → AreNumbered lines
    → AreRounds lines rounds → StandAt lines places (lines_of lines caller) → a ≤ b → b < length places
    → get_or rounds (get_or places a 0) 0 ≤ get_or rounds (get_or places b 0) 0
unfolding lines_of
own_rises lines rounds caller places a b numbered are stand low within =
    let own : List TraceLine = lines_of lines caller in
    let p = λ (line : TraceLine). nat_eq (caller_of lines line.thread) caller in
    let one : OwnAt lines own places a = own_at lines own places a stand (omega arith) in
    let two : OwnAt lines own places b = own_at lines own places b stand within in
    let rises : get_or places a 0 ≤ get_or places b 0 = elim (cases_lt a b) [
      | inl less ↦
          let below = order p lines (distinct lines numbered) a b (get_or places a 0) (get_or places b 0) one.line two.line less
          one.own_is two.own_is one.stands two.stands in
          omega (arith, below)
      | inr more ↦
          let same : a ≡ b = omega arith in
          let alike : get_or places a 0 ≡ get_or places b 0 = ap (λ (k : ℕ). get_or places k 0) same in
          omega (arith, alike)
    ] in
    are.order.rises (get_or places a 0) (get_or places b 0) one.line two.line one.stands two.stands rises
    (own_caller lines caller a one.line one.own_is ∙ sym (own_caller lines caller b two.line two.own_is))

-- after a round the lines that a pass ran are cut at the next round
pub cut_next : (lines : List TraceLine) (rounds : List ℕ) (caller : ℕ) (places : List ℕ) (round owed : ℕ) (old mid new : PassView)
    → AreNumbered lines → AreRounds lines rounds → StandAt lines places (lines_of lines caller) → own_by mid ≡ own_by old
    → RanLowerRounds rounds places round old → RanRound (lines_of lines caller) rounds places round owed mid new
    → (length (own_by new) < length places → round < get_or rounds (get_or places (length (own_by new)) 0) 0)
    → RanLowerRounds rounds places (round + 1) new
cut_next lines rounds caller places round owed old mid new numbered are stand same cut ran next = record {
  before = λ index within. elim (cases_lt index (length (own_by old))) [
    | inl early ↦ let low = cut.before index early in omega (arith, low)
    | inr late ↦ let low = ran.within index (omega (arith, late, ap length same)) within in omega (arith, low)
  ];
  from = λ index past within.
      let high = next (omega arith) in
      let above = own_rises lines rounds caller places (length (own_by new)) index numbered are stand past within in
      omega (arith, high, above);
}

-- What was told before a round, and what was then run.
module _ (lines : List TraceLine) (rounds : List ℕ) (tellings : List Telling) (places : List (Vec ℕ Global)) (owed : List ℕ)
    (round : ℕ) (olds mids news : List PassView)
    (rounds_are : AreRounds lines rounds)
    (tellings_are : AreTellings lines rounds tellings)
    (places_are : ArePlaces lines (length olds) places)
    (mids_all : length mids ≡ length olds)
    (news_all : length news ≡ length olds)
    (cut : (caller : ℕ) (pass : PassView) (own : Vec ℕ Global) → slice_get olds caller ≡ Some pass → slice_get places caller ≡ Some own
    → RanLowerRounds rounds own.items round pass)
    (moved : (caller : ℕ) (old mid : PassView) → slice_get olds caller ≡ Some old → slice_get mids caller ≡ Some mid → IsMoved old mid)
    (heard : (index : ℕ) (telling : Telling) (teller hearer : PassView) → slice_get tellings index ≡ Some telling → telling.round ≡ round
    → slice_get olds telling.teller ≡ Some teller → slice_get mids telling.hearer ≡ Some hearer
    → All (λ (said : Item). said.version ≤ length (seen_by hearer)) (own_by teller))
    (ran : (caller : ℕ) (mid new : PassView) (own : Vec ℕ Global) → slice_get mids caller ≡ Some mid → slice_get news caller ≡ Some new
    → slice_get places caller ≡ Some own → IsLater mid new × RanRound (lines_of lines caller) rounds own.items round (get_or owed caller 0) mid new) where
  -- a caller's passes before and after, and its places
  record Turn (caller : ℕ) (new : PassView) : Type 0 where
    old : PassView
    mid : PassView
    own : Vec ℕ Global
    old_is : slice_get olds caller ≡ Some old
    mid_is : slice_get mids caller ≡ Some mid
    own_is : slice_get places caller ≡ Some own
    same : own_by mid ≡ own_by old
    run : RanRound (lines_of lines caller) rounds own.items round (get_or owed caller 0) mid new
    stand : StandAt lines own.items (lines_of lines caller)
    new_is : own_by new ≡ own_by old ++ run.more

  turn : (caller : ℕ) (new : PassView) → slice_get news caller ≡ Some new → Turn caller new
  turn caller new found =
      let within : caller < length news = slice_get_within news caller new found in
      let old : PassView = get_or olds caller new in
      let mid : PassView = get_or mids caller new in
      let old_is : slice_get olds caller ≡ Some old = slice_get-get_or olds caller new (omega (arith, news_all)) in
      let mid_is : slice_get mids caller ≡ Some mid = slice_get-get_or mids caller new (omega (arith, news_all, mids_all)) in
      let inside : caller < length places = omega (arith, places_are.all, news_all) in
      let own : Vec ℕ Global = get_or places caller (some places inside) in
      let own_is : slice_get places caller ≡ Some own = slice_get-get_or places caller (some places inside) inside in
      let same : own_by mid ≡ own_by old = (moved caller old mid old_is mid_is).grew.own ∙ append-nil (own_by old) in
      let run : RanRound (lines_of lines caller) rounds own.items round (get_or owed caller 0) mid new = (ran caller mid new own mid_is found own_is).1 in
      record {
        old = old;
        mid = mid;
        own = own;
        old_is = old_is;
        mid_is = mid_is;
        own_is = own_is;
        same = same;
        run = run;
        stand = places_are.stand caller own own_is;
        new_is = run.grew.own ∙ ap (λ (l : List Item). l ++ run.more) same;
      }
    where
      some : (places : List (Vec ℕ Global)) → caller < length places → Vec ℕ Global
      some [] none = absurd (omega arith)
      some (own ∷ rest) within = own

  -- the line at an index of a caller's, and its place among all
  at_index : (caller index : ℕ) (new : PassView) (line : TraceLine) (turned : Turn caller new) → slice_get (lines_of lines caller) index ≡ Some line
      → (index < length turned.own.items) × (slice_get lines (get_or turned.own.items index 0) ≡ Some line)
  at_index caller index new line turned found =
      let within : index < length turned.own.items =
      omega (arith, same_length lines (lines_of lines caller) turned.own.items turned.stand, slice_get_within (lines_of lines caller) index line found) in
      let at : OwnAt lines (lines_of lines caller) turned.own.items index = own_at lines (lines_of lines caller) turned.own.items index turned.stand within in
      (within, at.stands ∙ sym at.own_is ∙ found)

  told_on_at : AreToldAt (λ place pass. own_by pass) lines olds → AreToldAt (λ place pass. own_by pass) lines news
  told_on_at told c i pass item line number its item_is stands after t j other said named other_is said_is there same =
      let telling : Turn t other = turn t other other_is in
      let hearing : Turn c pass = turn c pass its in
      let at = at_index t j other named telling there in
      let place = at_index c i pass line hearing stands in
      let names : NamesAt lines (get_or hearing.own.items i 0) (get_or telling.own.items j 0) =
      record { line = line; other = named; stands = place.1; there = at.1; after = after ∙ ap Some (sym same) } in
      let lower : get_or rounds (get_or telling.own.items j 0) 0 < get_or rounds (get_or hearing.own.items i 0) 0 =
      rounds_are.order.above (get_or hearing.own.items i 0) (get_or telling.own.items j 0) names in
      let within : i < length (own_by pass) = slice_get_within (own_by pass) i item item_is in
      let said_cut : RanLowerRounds rounds telling.own.items round telling.old = cut t telling.old telling.own telling.old_is telling.own_is in
      let heard_cut : RanLowerRounds rounds hearing.own.items round hearing.old = cut c hearing.old hearing.own hearing.old_is hearing.own_is in
      let run_by : get_or rounds (get_or hearing.own.items i 0) 0 ≤ round = elim (cases_lt i (length (own_by hearing.old))) [
        | inl early ↦ let low = heard_cut.before i early in omega (arith, low)
        | inr late ↦ hearing.run.within i (omega (arith, late, ap length hearing.same)) within
      ] in
      let early_said : j < length (own_by telling.old) = elim (cases_lt j (length (own_by telling.old))) [
        | inl early ↦ early
        | inr late ↦ let high = said_cut.from j late at.0 in absurd (omega (arith, high, lower, run_by))
      ] in
      let said_old : slice_get (own_by telling.old) j ≡ Some said =
      get_front (own_by telling.old) telling.run.more j said early_said (ap (λ (l : List Item). slice_get l j) (sym telling.new_is) ∙ said_is) in
      let item_new : slice_get (own_by hearing.old ++ hearing.run.more) i ≡ Some item =
      ap (λ (l : List Item). slice_get l i) (sym hearing.new_is) ∙ item_is in
      elim (cases_lt i (length (own_by hearing.old))) [
        | inl early ↦
            told c i hearing.old item line number hearing.old_is (get_front (own_by hearing.old) hearing.run.more i item early item_new) stands after
            t j telling.old said named telling.old_is said_old there same
        | inr late ↦
            let high = heard_cut.from i late place.0 in
            let now : get_or rounds (get_or hearing.own.items i 0) 0 ≡ round = omega (arith, high, run_by) in
            let one = tellings_are.each (get_or hearing.own.items i 0) (get_or telling.own.items j 0) names in
            let low : said.version ≤ length (seen_by hearing.mid) =
            at_place (λ (s : Item). s.version ≤ length (seen_by hearing.mid)) (own_by telling.old) j said
            (heard one.0 (record {
              round = get_or rounds (get_or hearing.own.items i 0) 0;
              teller = caller_of lines named.thread;
              hearer = caller_of lines line.thread;
            }) telling.old hearing.mid one.1 now
            (ap (slice_get olds) (own_caller lines t j named there) ∙ telling.old_is)
            (ap (slice_get mids) (own_caller lines c i line stands) ∙ hearing.mid_is)) said_old in
            let mine = get_past (own_by hearing.old) hearing.run.more i item late item_new in
            let after : length (seen_by hearing.mid) + cond (is_call item.content) 1 0 ≤ item.version =
            at_place (IsLate (length (seen_by hearing.mid))) hearing.run.more mine.0 item hearing.run.grew.late mine.1 in
            omega (arith, low, after)
      ]

  pub told_on : AreToldBy lines olds → AreToldBy lines news
  told_on told = told_from (λ place pass. own_by pass) lines news (told_on_at (told_at (λ place pass. own_by pass) lines olds told))
