-- Serves `AnsweredLines` and the loops over the items of a history: which line the next item answers.
use Rattle.std.proofs.Common.{ℕ, ◌≡◌, ◌+◌, ◌<◌, ◌∙◌, refl, sym, ap, subst, cond, true, false, nat_eq, List, [], ◌∷◌, ◌++◌, length, map, take, get_or, slice_get, set, Option, Some, None, arith, inl, inr}
use Rattle.std.specs.Prelude.{Vec, IsSomeAnd, replicate}
use Rattle.std.specs.Option.{option_map}
use Rattle.std.specs.declared.alloc.Global.{Global}
use Rattle.std.proofs.lemmas.Bool.{cases_lt, eq-eqb, cases_eq, ne_eqb}
use Rattle.std.proofs.lemmas.List.{length-append, length-map, length-set, length-replicate, get_or-replicate, get_or-set_same, get_or-set_other}
use Rattle.std.proofs.lemmas.List.Elements.{filter-append}
use Rattle.std.proofs.lemmas.Option.{slice_get-map, slice_get_within, slice_get-get_or, slice_get_read}
use Rattle.std.proofs.lemmas.Grind.{get_or_default_zero}
use Rattle.trace_reader.specs.declared.trace.TraceLine.{TraceLine}
use Rattle.history.specs.declared.items.Item.{Item}
use Rattle.history.specs.CallerPlaces.{ArePlaces}
use Rattle.history.specs.Histories.{lines_of, items_of, line_answered, op_asked, read_as}
use Rattle.output.specs.declared.answered.AnsweredLines.{AnsweredLines}
use Rattle.output.specs.Answering.{AnswersNext, AreAnswered}
use Rattle.output.specs.Giving.{AreLegal}

-- what is there, where something is
pub there : {X : Type 0} (found : Option X) (P : X → Type 0) → IsSomeAnd found P → (x : X) × (found ≡ Some x)
there (Some x) P holds = (x, refl)
there None P holds = absurd holds

-- an item of a legal history answers a line, behind the items before it
pub answers_line : (lines : List TraceLine) (items : List Item) (index : ℕ) (item : Item) → AreLegal lines items → index < length items
    → item ≡ get_or items index item → (line : TraceLine) × (line_answered lines (take index items) item ≡ Some line)
answers_line lines items index item legal within is =
    there (line_answered lines (take index items) item) (λ line. read_as line.op ≡ op_asked item.content)
    (legal.2.stands index item (slice_get_read items (length items) index item refl within is)).next

pub none_at : {X : Type 0} (xs : List X) (k : ℕ) (x : X) → xs ≡ [] → slice_get xs k ≡ Some x → ⊥
none_at xs k x none found = let within : k < length xs = slice_get_within xs k x found in omega (arith, ap length none)

some_at : {X Y : Type 0} (f : X → Option Y) (xs : List X) (ys : List Y) (k : ℕ) (y : Y) (d : X) → map f xs ≡ map Some ys → slice_get ys k ≡ Some y
    → (k < length xs) × (f (get_or xs k d) ≡ Some y)
some_at f xs ys k y d same found =
    let mapped : slice_get (map f xs) k ≡ Some (Some y) =
    ap (λ (l : List (Option _)). slice_get l k) same ∙ slice_get-map Some ys k ∙ ap (option_map Some) found in
    let within : k < length xs = subst (λ (n : ℕ). k < n) (length-map xs f) (slice_get_within (map f xs) k (Some y) mapped) in
    let here : slice_get (map f xs) k ≡ Some (f (get_or xs k d)) = slice_get-map f xs k ∙ ap (option_map f) (slice_get-get_or xs k d within) in
    (within, cc)

-- where the line of the next item is found: at the next place of its caller
pub record Found (state : AnsweredLines) (item : Item) (line : TraceLine) : Type 0 where
  pub caller : item.caller < length state.places.items
  pub counted : item.caller < length state.answered.items
  pub within : (own : Vec ℕ Global) (count : ℕ) → own ≡ get_or state.places.items item.caller own
      → count ≡ get_or state.answered.items item.caller count → count < length own.items
  pub place : (own : Vec ℕ Global) (count place : ℕ) → own ≡ get_or state.places.items item.caller own
      → count ≡ get_or state.answered.items item.caller count → place ≡ get_or own.items count place
      → slice_get state.lines.now place ≡ Some line

pub found : (lines : List TraceLine) (before : List Item) (state : AnsweredLines) (item : Item) (line : TraceLine) → AreAnswered lines before state
    → line_answered lines before item ≡ Some line → Found state item line
unfolding line_answered
found lines before state item line are answers =
    let many : ℕ = length (items_of before item.caller) in
    let counted : item.caller < length state.answered.items = elim (cases_lt item.caller (length state.answered.items)) [
      | inl within ↦ within
      | inr past ↦ absurd (none_at (lines_of lines item.caller) many line (are.places.no_lines item.caller past) answers)
    ] in
    let caller : item.caller < length state.places.items = omega (arith, counted, are.places.all) in
    let so_many : (count : ℕ) → count ≡ get_or state.answered.items item.caller count → count ≡ many =
    λ count read. read ∙ get_or_default_zero state.answered.items item.caller count counted ∙ are.counts item.caller counted in
    let at : (own : Vec ℕ Global) → own ≡ get_or state.places.items item.caller own
    → (many < length own.items) × (slice_get lines (get_or own.items many 0) ≡ Some line) =
    λ own read. some_at (slice_get lines) own.items (lines_of lines item.caller) many line 0
    (are.places.stand item.caller own (slice_get_read state.places.items (length state.places.items) item.caller own refl caller read)) answers in
    record {
      caller = caller;
      counted = counted;
      within = λ own count its read. subst (λ (n : ℕ). n < length own.items) (sym (so_many count read)) (at own its).0;
      place = λ own count place its read here.
          let short : count < length own.items = subst (λ (n : ℕ). n < length own.items) (sym (so_many count read)) (at own its).0 in
          ap (λ (l : List TraceLine). slice_get l place) are.its_lines
          ∙ ap (slice_get lines) (here ∙ get_or_default_zero own.items count place short ∙ ap (λ (n : ℕ). get_or own.items n 0) (so_many count read))
          ∙ (at own its).1;
    }

-- so it is where an item answers a line
pub found_next : (state : AnsweredLines) (item : Item) (next : AnswersNext state item) → Found state item next.3
found_next state item next = found next.0 next.1 state item next.3 next.2 next.4

-- the line is the same for whatever items so many lines are answered as
same_line : (lines others : List TraceLine) (before earlier : List Item) (state : AnsweredLines) (item : Item) → AreAnswered lines before state
    → AreAnswered others earlier state → item.caller < length state.answered.items → line_answered lines before item ≡ line_answered others earlier item
unfolding line_answered
same_line lines others before earlier state item one two within =
    ap (λ (l : List TraceLine). slice_get (lines_of l item.caller) (length (items_of before item.caller))) (sym one.its_lines ∙ two.its_lines)
    ∙ ap (slice_get (lines_of others item.caller)) (sym (one.counts item.caller within) ∙ two.counts item.caller within)

-- an item more
items_more : (before : List Item) (item : Item) (caller : ℕ)
    → items_of (before ++ item ∷ []) caller ≡ items_of before caller ++ cond (nat_eq item.caller caller) (item ∷ []) []
unfolding items_of
items_more before item caller = filter-append (λ (i : Item). nat_eq i.caller caller) before (item ∷ [])

answered_more : (lines : List TraceLine) (before : List Item) (old new : AnsweredLines) (item : Item) (count : ℕ) → AreAnswered lines before old
    → item.caller < length old.answered.items → count ≡ length (items_of before item.caller) → new.lines ≡ old.lines → new.places ≡ old.places
    → new.answered.items ≡ set old.answered.items item.caller (count + 1) → AreAnswered lines (before ++ item ∷ []) new
answered_more lines before old new item count are within counted of_lines of_places pushed =
    let same : length new.answered.items ≡ length old.answered.items = ap length pushed ∙ length-set old.answered.items item.caller (count + 1) in
    let of_more : (caller : ℕ) → length (items_of (before ++ item ∷ []) caller) ≡ length (items_of before caller) + length
    (cond (nat_eq item.caller caller) (item ∷ []) []) =
    λ caller. ap length (items_more before item caller) ∙ length-append (items_of before caller) (cond (nat_eq item.caller caller) (item ∷ []) []) in
    record {
      its_lines = ap (λ l. l.now) of_lines ∙ are.its_lines;
      places = subst (λ (n : ℕ). ArePlaces lines n new.places.items) (sym same)
          (subst (λ (p : Vec (Vec ℕ Global) Global). ArePlaces lines (length old.answered.items) p.items) (sym of_places) are.places);
      counts = λ caller at. elim (cases_eq caller item.caller) [
        | inl is ↦
            let one : nat_eq item.caller caller ≡ true = eq-eqb item.caller caller (sym is) in
            let added : length (cond (nat_eq item.caller caller) (item ∷ []) []) ≡ 1 = rw one refl in
            let here : count ≡ length (items_of before caller) = counted ∙ ap (λ (k : ℕ). length (items_of before k)) (sym is) in
            let set_here : get_or (set old.answered.items item.caller (count + 1)) caller 0 ≡ count + 1 =
            ap (λ (k : ℕ). get_or (set old.answered.items item.caller (count + 1)) k 0) is
            ∙ get_or-set_same old.answered.items item.caller (count + 1) 0 within in
            ap (λ (l : List ℕ). get_or l caller 0) pushed ∙ set_here ∙ omega (arith, of_more caller, here, added)
        | inr other ↦
            let none : nat_eq item.caller caller ≡ false = ne_eqb item.caller caller (λ is. other (sym is)) in
            let added : length (cond (nat_eq item.caller caller) (item ∷ []) []) ≡ 0 = rw none refl in
            ap (λ (l : List ℕ). get_or l caller 0) pushed ∙ get_or-set_other old.answered.items item.caller caller (count + 1) 0 other
            ∙ are.counts caller (omega (arith, at, same)) ∙ omega (arith, of_more caller, added)
      ];
    }

-- the line that was found is that of the next item, which is answered from then on
pub answered_next : (old new : AnsweredLines) (item : Item) (next : AnswersNext old item) (line : TraceLine) (again : ℕ) → next.3 ≡ line
    → again ≡ get_or old.answered.items item.caller again → new.lines ≡ old.lines → new.places ≡ old.places
    → new.answered.items ≡ set old.answered.items item.caller (again + 1) → (lines : List TraceLine) (before : List Item) → AreAnswered lines before old
    → (line_answered lines before item ≡ Some line) × AreAnswered lines (before ++ item ∷ []) new
answered_next old new item next line again is read of_lines of_places pushed lines before are =
    let counted : item.caller < length old.answered.items = (found_next old item next).counted in
    let many : again ≡ length (items_of before item.caller) =
    read ∙ get_or_default_zero old.answered.items item.caller again counted ∙ are.counts item.caller counted in (
      same_line lines next.0 before next.1 old item are next.2 counted ∙ next.4 ∙ ap Some is,
      answered_more lines before old new item again are counted many of_lines of_places pushed,
    )

-- before the first item
pub answered_none : (lines : List TraceLine) (callers : ℕ) (state : AnsweredLines) → state.lines.now ≡ lines → ArePlaces lines callers state.places.items
    → state.answered.items ≡ replicate callers 0 → AreAnswered lines [] state
unfolding items_of
answered_none lines callers state of_lines are zeros =
    let count : length state.answered.items ≡ callers = ap length zeros ∙ length-replicate callers 0 in
    record {
      its_lines = of_lines;
      places = subst (λ (n : ℕ). ArePlaces lines n state.places.items) (sym count) are;
      counts = λ caller within. ap (λ (l : List ℕ). get_or l caller 0) zeros ∙ get_or-replicate callers caller 0 0 (omega (arith, within, count));
    }
