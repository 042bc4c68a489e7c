-- Serves `rounds_of`: what its loop keeps.
use Rattle.std.proofs.Common.{ℕ, ◌≡◌, ◌+◌, ◌-◌, ◌<◌, ◌≤◌, ◌∙◌, refl, sym, ap, subst, List, [], ◌∷◌, ◌++◌, length, get_or, set, slice_get, replicate, All, Option, Some, None, arith, inl, inr}
use Rattle.std.specs.Prelude.{IfSome}
use Rattle.std.proofs.lemmas.Bool.{cases_lt, cases_eq}
use Rattle.std.proofs.lemmas.List.{length-set, length-replicate, get_or-replicate, get_or_past, length_push, get_or-set_same, get_or-set_other, get_or_append_left, get_or-append_right}
use Rattle.std.proofs.lemmas.Option.{slice_get_within, slice_get-get_or, get_or_from_slice_get, same_Some}
use Rattle.trace_reader.specs.declared.trace.TraceLine.{TraceLine}
use Rattle.trace_reader.specs.declared.limits.TheConstants.{MOST_LINES}
use Rattle.trace_reader.specs.Values.{AreNumbered, AreNamesRight}
use Rattle.history.specs.Histories.{caller_of}
use Rattle.history.proofs.Numbers.{one_place}
use Rattle.vma_drive.specs.Naming.{HasNumber, NamesAt}
use Rattle.vma_drive.specs.Internal.Rounds.{AreRounds, KeepOrder}
use Rattle.vma_drive.proofs.NamedLines.{named_before, name_stands, names_at}
use Rattle.vma_drive.proofs.NamesShared.{caller_few}

-- the rounds of the first lines; each caller reached the greatest of its own
pub record RoundedTo (lines : List TraceLine) (rounds reached : List ℕ) (place : ℕ) : Type 0 where
  pub all : length rounds ≡ place
  pub size : length reached ≡ 64
  pub low : (k : ℕ) → k < place → get_or rounds k 0 ≤ k
  pub reached_low : (caller : ℕ) → get_or reached caller 0 ≤ place
  pub below : (a : ℕ) (line : TraceLine) → a < place → slice_get lines a ≡ Some line → get_or rounds a 0 ≤ get_or reached (caller_of lines line.thread) 0
  pub rises : (a b : ℕ) (line other : TraceLine) → b < place → slice_get lines a ≡ Some line → slice_get lines b ≡ Some other → a ≤ b
      → caller_of lines line.thread ≡ caller_of lines other.thread → get_or rounds a 0 ≤ get_or rounds b 0
  pub above : (at said : ℕ) → at < place → NamesAt lines at said → get_or rounds said 0 < get_or rounds at 0
  pub least : (others : List ℕ) → KeepOrder lines others → (k : ℕ) → k < place → get_or rounds k 0 ≤ get_or others k 0
  pub reached_least : (others : List ℕ) → KeepOrder lines others → (b : ℕ) (line : TraceLine) → place ≤ b → slice_get lines b ≡ Some line
      → get_or reached (caller_of lines line.thread) 0 ≤ get_or others b 0

zeros : (many caller : ℕ) → get_or (replicate many 0) caller 0 ≤ 0
zeros many caller = elim (cases_lt caller many) [
  | inl within ↦ let none = get_or-replicate {A = ℕ} many caller 0 0 within in omega (arith, none)
  | inr past ↦ let none = get_or_past {X = ℕ} (replicate many 0) caller 0 (omega (arith, length-replicate {A = ℕ} many 0, past)) in omega (arith, none)
]

pub rounded_none : (lines : List TraceLine) (rounds : List ℕ) → length rounds ≡ 0
    → RoundedTo lines rounds (replicate 64 0) 0
rounded_none lines rounds none = record {
  all = none;
  size = length-replicate {A = ℕ} 64 0;
  low = λ k within. absurd (omega arith);
  reached_low = zeros 64;
  below = λ a line within. absurd (omega arith);
  rises = λ a b line other within. absurd (omega arith);
  above = λ at said within. absurd (omega arith);
  least = λ others keeps k within. absurd (omega (arith, within));
  reached_least = λ others keeps b line past at. let low = zeros 64 (caller_of lines line.thread) in omega (arith, low);
}

pub rounded_more : (lines : List TraceLine) (rounds reached : List ℕ) (place caller round : ℕ) (here : TraceLine)
    → AreNumbered lines → AreNamesRight lines
    → RoundedTo lines rounds reached place → slice_get lines place ≡ Some here → caller ≡ caller_of lines here.thread → caller < length reached
    → get_or reached caller 0 ≤ round → round ≤ place
    → ((said : ℕ) → NamesAt lines place said → get_or rounds said 0 < round)
    → ((bound : ℕ) → get_or reached caller 0 ≤ bound → ((said : ℕ) → NamesAt lines place said → get_or rounds said 0 < bound) → round ≤ bound)
    → RoundedTo lines (rounds ++ round ∷ []) (set reached caller round) (place + 1)
rounded_more lines rounds reached place caller round here numbered names to stands is within up small name least =
    let old : (k : ℕ) → k < place → get_or (rounds ++ round ∷ []) k 0 ≡ get_or rounds k 0 =
    λ k early. get_or_append_left rounds (round ∷ []) 0 k (omega (arith, early, to.all)) in
    let new : (k : ℕ) → k ≡ place → get_or (rounds ++ round ∷ []) k 0 ≡ round =
    λ k same. get_or-append_right rounds (round ∷ []) place k 0 to.all (omega (arith, same))
    ∙ ap (λ (n : ℕ). get_or (round ∷ []) n 0) (none k same) in
    let mine : (c : ℕ) → c ≡ caller → get_or (set reached caller round) c 0 ≡ round =
    λ c same. ap (λ (n : ℕ). get_or (set reached caller round) n 0) same ∙ get_or-set_same reached caller round 0 within in
    let grows : (c : ℕ) → get_or reached c 0 ≤ get_or (set reached caller round) c 0 = λ c. elim (cases_eq c caller) [
      | inl same ↦ omega (arith, mine c same, up, ap (λ (n : ℕ). get_or reached n 0) same)
      | inr other ↦ omega (arith, get_or-set_other reached caller c round 0 other)
    ] in
    let late : (b : ℕ) → b < place + 1 → (place ≤ b) → b ≡ place = λ b low high. omega (arith, low, high) in
    let least_here : (others : List ℕ) → KeepOrder lines others → round ≤ get_or others place 0 = λ others keeps.
    let own = to.reached_least others keeps place here (omega arith) stands in
    least (get_or others place 0) (omega (arith, own, ap (λ (n : ℕ). get_or reached n 0) is))
    (λ said its.
    let low = to.least others keeps said (named_before lines numbered names place said its) in
    let high = keeps.above place said its in
    omega (arith, low, high)) in
    record {
      all = omega (arith, length_push rounds round, to.all);
      size = length-set reached caller round ∙ to.size;
      low = λ k inside. elim (cases_lt k place) [
        | inl early ↦ omega (arith, old k early, to.low k early)
        | inr past ↦ omega (arith, new k (late k inside past), small, past)
      ];
      reached_low = λ c. elim (cases_eq c caller) [
        | inl same ↦ omega (arith, mine c same, small)
        | inr other ↦ omega (arith, get_or-set_other reached caller c round 0 other, to.reached_low c)
      ];
      below = λ a line inside at. elim (cases_lt a place) [
        | inl early ↦ omega (arith, old a early, to.below a line early at, grows (caller_of lines line.thread))
        | inr past ↦
            let one : a ≡ place = late a inside past in
            let same : line ≡ here = same_Some line here (sym at ∙ ap (slice_get lines) one ∙ stands) in
            omega (arith, new a one, mine (caller_of lines line.thread) (ap (λ (l : TraceLine). caller_of lines l.thread) same ∙ sym is))
      ];
      rises = λ a b line other inside at there order alike. elim (cases_lt b place) [
        | inl early ↦ omega (arith, old a (omega (arith, early, order)), old b early, to.rises a b line other early at there order alike)
        | inr past ↦
            let last : b ≡ place = late b inside past in
            let same : other ≡ here = same_Some other here (sym there ∙ ap (slice_get lines) last ∙ stands) in
            let by : caller_of lines line.thread ≡ caller = alike ∙ ap (λ (l : TraceLine). caller_of lines l.thread) same ∙ sym is in
            elim (cases_lt a place) [
              | inl early ↦
                  omega (arith, old a early, new b last, to.below a line early at, up, ap (λ (n : ℕ). get_or reached n 0) by)
              | inr beyond ↦ omega (arith, new a (omega (arith, beyond, order, last)), new b last)
            ]
      ];
      above = λ at said inside its. elim (cases_lt at place) [
        | inl early ↦
            let before = named_before lines numbered names at said its in
            omega (arith, old at early, old said (omega (arith, before, early)), to.above at said early its)
        | inr past ↦
            let one : at ≡ place = late at inside past in
            let before = named_before lines numbered names at said its in
            omega (arith, new at one, old said (omega (arith, before, one)), name said (subst (λ (n : ℕ). NamesAt lines n said) one its))
      ];
      least = λ others keeps k inside. elim (cases_lt k place) [
        | inl early ↦ omega (arith, old k early, to.least others keeps k early)
        | inr past ↦
            let one : k ≡ place = late k inside past in
            omega (arith, new k one, least_here others keeps, ap (λ (n : ℕ). get_or others n 0) one)
      ];
      reached_least = λ others keeps b line past at. elim (cases_eq (caller_of lines line.thread) caller) [
        | inl same ↦
            let here_low = least_here others keeps in
            let rises = keeps.rises place b here line stands at (omega (arith, past)) (sym is ∙ sym same) in
            omega (arith, mine (caller_of lines line.thread) same, here_low, rises)
        | inr other ↦
            let low = to.reached_least others keeps b line (omega (arith, past)) at in
            omega (arith, get_or-set_other reached caller (caller_of lines line.thread) round 0 other, low)
      ];
    }
  where
    none : (k : ℕ) → k ≡ place → k - place ≡ 0
    none k same = omega arith

pub rounded_all : (lines : List TraceLine) (rounds reached : List ℕ) (place : ℕ)
    → RoundedTo lines rounds reached place → place ≡ length lines → length lines ≤ MOST_LINES → AreRounds lines rounds
rounded_all lines rounds reached place to all few = record {
  all = to.all ∙ all;
  few = λ k d within.
      let low = to.low k (omega (arith, within, to.all)) in
      omega (arith, low, within, to.all, all, few, same rounds k d within);
  order = record {
    rises = λ a b line other at there. to.rises a b line other (omega (arith, all, slice_get_within lines b other there)) at there;
    above = λ at said its. to.above at said (omega (arith, all, slice_get_within lines at its.line its.stands)) its;
  };
  least = λ others keeps k within. to.least others keeps k (omega (arith, all, within));
}
  where
    same : (xs : List ℕ) (k d : ℕ) → k < length xs → get_or xs k d ≡ get_or xs k 0
    same xs k d within = get_or_from_slice_get xs k (get_or xs k 0) d (slice_get-get_or xs k 0 within)

-- what holds of the lines that a line names holds of the one that it names
name_holds : (lines : List TraceLine) (place : ℕ) (line : TraceLine) (P : ℕ → Type 0) → AreNumbered lines → AreNamesRight lines
    → slice_get lines place ≡ Some line → ((said : ℕ) → NamesAt lines place said → P said)
    → IfSome line.after (λ number. (said : ℕ) × HasNumber lines number said × P said)
name_holds lines place line P numbered names found holds = by_name line.after refl
  where
    by_name : (after : Option ℕ) → line.after ≡ after → IfSome after (λ number. (said : ℕ) × HasNumber lines number said × P said)
    by_name None is = tt
    by_name (Some number) is =
        let stands = name_stands lines place line number names found is in
        (stands.0, stands.1, holds stands.0 (names_at lines place stands.0 line number found is stands.1))

-- the line that a line names is an earlier one
pub name_low : (lines : List TraceLine) (place many : ℕ) (line : TraceLine) → AreNumbered lines → AreNamesRight lines
    → slice_get lines place ≡ Some line → many ≡ place
    → IfSome line.after (λ number. (said : ℕ) × HasNumber lines number said × (said < many))
name_low lines place many line numbered names found same = name_holds lines place line (λ said. said < many) numbered names found
    (λ said its. let low = named_before lines numbered names place said its in omega (arith, low, same))

-- it has a lower round
pub name_above : (lines : List TraceLine) (rounds shown : List ℕ) (round place : ℕ) (line : TraceLine) → AreNumbered lines → slice_get lines place ≡ Some line
    → IfSome line.after (λ number. (said : ℕ) × HasNumber lines number said × (get_or shown said 0 < round)) → shown ≡ rounds
    → (said : ℕ) → NamesAt lines place said → get_or rounds said 0 < round
name_above lines rounds shown round place line numbered found above same said at =
    let one : at.line ≡ line = same_Some at.line line (sym at.stands ∙ found) in
    let names : line.after ≡ Some at.other.number = ap (λ (l : TraceLine). l.after) (sym one) ∙ at.after in
    let its = subst (λ (o : Option ℕ). IfSome o (λ number. (said : ℕ) × HasNumber lines number said × (get_or shown said 0 < round))) names above in
    let level : its.0 ≡ said = one_place lines numbered its.0 said its.1.0 at.other its.1.1 at.there its.1.2 in
    subst (λ (n : ℕ). get_or rounds n 0 < round) level (subst (λ (l : List ℕ). get_or l its.0 0 < round) same its.2)

-- what the next round is made of
pub round_few : (lines : List TraceLine) (rounds reached shown : List ℕ) (place k d : ℕ)
    → RoundedTo lines rounds reached place → shown ≡ rounds → k < length shown → get_or shown k d + 1 ≤ place
round_few lines rounds reached shown place k d to same within =
    let inside : k < length rounds = omega (arith, within, ap (λ (l : List ℕ). length l) same) in
    let read : get_or shown k d ≡ get_or rounds k 0 = ap (λ (l : List ℕ). get_or l k d) same
    ∙ get_or_from_slice_get rounds k (get_or rounds k 0) d (slice_get-get_or rounds k 0 inside) in
    let low = to.low k (omega (arith, inside, to.all)) in
    omega (arith, read, low, inside, to.all)

pub rounded_at : (lines : List TraceLine) (rounds reached shown pushed : List ℕ) (place caller round : ℕ) (d : TraceLine)
    → AreNumbered lines → AreNamesRight lines → RoundedTo lines rounds reached place → place < length lines
    → All (λ (line : TraceLine). line.thread < 64) lines → caller ≡ caller_of lines (get_or lines place d).thread
    → get_or reached caller 0 ≤ round
    → ((bound : ℕ) → get_or reached caller 0 ≤ bound
    → IfSome (get_or lines place d).after (λ number. (said : ℕ) × HasNumber lines number said × (get_or shown said 0 < bound)) → round ≤ bound)
    → shown ≡ rounds
    → IfSome (get_or lines place d).after (λ number. (said : ℕ) × HasNumber lines number said × (get_or shown said 0 < round))
    → pushed ≡ rounds ++ round ∷ []
    → RoundedTo lines pushed (set reached caller round) (place + 1)
rounded_at lines rounds reached shown pushed place caller round d numbered names to within threads is up least same above push =
    let here : TraceLine = get_or lines place d in
    let stands : slice_get lines place ≡ Some here = slice_get-get_or lines place d within in
    let low : caller_of lines here.thread ≤ here.thread = caller_few lines here.thread in
    let read : (said : ℕ) → get_or shown said 0 ≡ get_or rounds said 0 = λ said. ap (λ (l : List ℕ). get_or l said 0) same in
    let least_of : (bound : ℕ) → get_or reached caller 0 ≤ bound → ((said : ℕ) → NamesAt lines place said → get_or rounds said 0 < bound) → round ≤ bound =
    λ bound own named. least bound own (name_holds lines place here (λ said. get_or shown said 0 < bound) numbered names stands
    (λ said its. let below = named said its in omega (arith, below, read said))) in
    let small : round ≤ place = least_of place (to.reached_low caller) (λ said its.
    let before = named_before lines numbered names place said its in
    let few = to.low said before in
    omega (arith, few, before)) in
    subst (λ (l : List ℕ). RoundedTo lines l (set reached caller round) (place + 1)) (sym push)
    (rounded_more lines rounds reached place caller round here numbered names to stands is
    (omega (arith, is, low, threads place d within, to.size)) up small
    (name_above lines rounds shown round place here numbered stands above same) least_of)
