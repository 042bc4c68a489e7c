-- Serves `printing.rt` and `giving.rt`: what printing a text a part after the other gives.
use Rattle.std.proofs.Common.{ℕ, ◌≡◌, ◌+◌, ◌-◌, ◌%◌, ◌<◌, ◌∙◌, refl, sym, ap, subst, List, [], ◌∷◌, ◌++◌, length, take, drop, get_or, append_assoc, append-nil, length-append, length-drop, take-append-drop, Option, Some, None, Result, Ok, Err, arith, inl, inr}
use Rattle.std.proofs.lemmas.List.{take_more}
use Rattle.std.proofs.lemmas.Nat.{mod_below}
use Rattle.std.proofs.lemmas.Grind.{flat_map-append}
use Rattle.std.specs.Io.KnownBytes.{Appends, Keeps}
use Rattle.std.proofs.KnownBytes.{Appends-nil, Appends-trans}
use Rattle.io_edge.specs.Edge.{SinkView, FailedLast}
use Rattle.mm_types.specs.declared.area.Record.{Record}
use Rattle.mm_types.specs.declared.files.FileRow.{FileRow}
use Rattle.mm_types.specs.MapsText.{area_text, list_text}
use Rattle.std.specs.Prelude.{IsErrAnd, MatchResult}
use Rattle.output.specs.declared.error.PrintError.{PrintError}
use Rattle.output.specs.declared.error.PrintError.TheVariants as errors
use Rattle.output.specs.declared.giving.TheConstants.{MOST_GIVEN}
use Rattle.output.specs.Giving.{Gave, IsWhy, IsCutOff, IsPrinting, Moved, Prints}

-- nothing was given
pub gave_none : (old : SinkView) → Gave old old []
gave_none old = record { moved = Appends-nil old.written; calm = refl }

-- one text after the other
pub gave_both : (old mid new : SinkView) (first second : List ℕ) → Gave old mid first → Gave mid new second → Gave old new (first ++ second)
gave_both old mid new first second one two = record {
  moved = Appends-trans old.written mid.written new.written first second one.moved two.moved;
  calm = two.calm ∙ one.calm;
}

-- a text that was appended to the piece was printed
pub moved_held : (old : SinkView) (held text : List ℕ) → Moved old old held (held ++ text) text
moved_held old held text = record { given = []; gave = gave_none old; split = refl }

-- where memory runs out before anything was given
pub cut_none : (old : SinkView) (held text : List ℕ) (fault : PrintError) → fault ≡ errors.NoMemory → IsCutOff old old held text fault
cut_none old held text fault is = record { given = []; lost = held ++ text; moved = Appends-nil old.written; split = refl; why = inr (is, refl) }

-- one text after the other
pub moved_then : (old mid new : SinkView) (held holds last text more : List ℕ) → Moved old mid held holds text → Moved mid new holds last more
    → Moved old new held last (text ++ more)
moved_then old mid new held holds last text more first second = record {
  given = first.given ++ second.given;
  gave = gave_both old mid new first.given second.given first.gave second.gave;
  split = sym (append_assoc held text more) ∙ ap (λ (l : List ℕ). l ++ more) first.split ∙ append_assoc first.given holds more
      ∙ ap (λ (l : List ℕ). first.given ++ l) second.split ∙ sym (append_assoc first.given second.given last);
}

-- and into a piece that is bounded
pub prints_then : (old mid new : SinkView) (held holds last text more : List ℕ) → Prints old mid held holds text → Prints mid new holds last more
    → Prints old new held last (text ++ more)
prints_then old mid new held holds last text more first second =
    record { moved = moved_then old mid new held holds last text more first.moved second.moved; few = second.few }

-- why giving ended, by the sink before what was given first
why_then : (old mid new : SinkView) (lost : List ℕ) (fault : PrintError) → mid.faults ≡ old.faults → IsWhy mid new lost fault → IsWhy old new lost fault
why_then old mid new lost fault calm why = elim why [
  | inl failed ↦ inl (failed.0, failed.1 ∙ ap (λ (n : ℕ). n + 1) calm, failed.2, failed.3)
  | inr wanted ↦ inr (wanted.0, wanted.1 ∙ calm)
]

-- more was lost
why_more : (old new : SinkView) (lost more : List ℕ) (fault : PrintError) → IsWhy old new lost fault → IsWhy old new (lost ++ more) fault
why_more old new lost more fault why = elim why [
  | inl failed ↦ inl (failed.0, failed.1, failed.2, omega (arith, length-append lost more, failed.3))
  | inr wanted ↦ inr wanted
]

-- the second ended early
pub cut_then : (old mid new : SinkView) (held holds text more : List ℕ) (fault : PrintError) → Moved old mid held holds text
    → IsCutOff mid new holds more fault → IsCutOff old new held (text ++ more) fault
cut_then old mid new held holds text more fault first cut = record {
  given = first.given ++ cut.given;
  lost = cut.lost;
  moved = Appends-trans old.written mid.written new.written first.given cut.given first.gave.moved cut.moved;
  split = sym (append_assoc held text more) ∙ ap (λ (l : List ℕ). l ++ more) first.split ∙ append_assoc first.given holds more
      ∙ ap (λ (l : List ℕ). first.given ++ l) cut.split ∙ sym (append_assoc first.given cut.given cut.lost);
  why = why_then old mid new cut.lost fault first.gave.calm cut.why;
}

-- the first did, so that the second was not begun
pub cut_more : (old new : SinkView) (held text more : List ℕ) (fault : PrintError) → IsCutOff old new held text fault
    → IsCutOff old new held (text ++ more) fault
cut_more old new held text more fault cut = record {
  given = cut.given;
  lost = cut.lost ++ more;
  moved = cut.moved;
  split = sym (append_assoc held text more) ∙ ap (λ (l : List ℕ). l ++ more) cut.split ∙ append_assoc cut.given cut.lost more;
  why = why_more old new cut.lost more fault cut.why;
}

-- it ended early at a line between others
pub cut_at : (old mid new : SinkView) (held holds text line rest whole : List ℕ) (fault : PrintError) → Prints old mid held holds text
    → (text ++ line) ++ rest ≡ whole → IsCutOff mid new holds line fault → IsCutOff old new held whole fault
cut_at old mid new held holds text line rest whole fault first all cut =
    subst (λ (t : List ℕ). IsCutOff old new held t fault) all
    (cut_more old new held (text ++ line) rest fault (cut_then old mid new held holds text line fault first.moved cut))

-- memory ran out before the rest was printed
pub cut_before : (old new : SinkView) (held holds text rest whole : List ℕ) (fault : PrintError) → Prints old new held holds text
    → text ++ rest ≡ whole → fault ≡ errors.NoMemory → IsCutOff old new held whole fault
cut_before old new held holds text rest whole fault first all is =
    subst (λ (t : List ℕ). IsCutOff old new held t fault) all
    (cut_then old new new held holds text rest fault first.moved (cut_none new holds rest fault is))

-- a text was appended to the piece, and then another was printed
pub printing_after : {T : Type 0} (old new : SinkView) (held mid holds text more : List ℕ) (result : Result T PrintError) → mid ≡ held ++ text
    → IsPrinting old new mid holds more result → IsPrinting old new held holds (text ++ more) result
printing_after old new held mid holds text more (Ok done) is prints =
    record {
      moved = moved_then old old new held (held ++ text) holds text more (moved_held old held text)
          (subst (λ (m : List ℕ). Moved old new m holds more) is prints.moved);
      few = prints.few;
    }
printing_after old new held mid holds text more (Err fault) is cut =
    cut_then old old new held (held ++ text) text more fault (moved_held old held text)
    (subst (λ (m : List ℕ). IsCutOff old new m more fault) is cut)

-- one text was printed, and then what printing another results in
pub printing_then : {T : Type 0} (old mid new : SinkView) (held holds last text more : List ℕ) (result : Result T PrintError) → Prints old mid held holds text
    → IsPrinting mid new holds last more result → IsPrinting old new held last (text ++ more) result
printing_then old mid new held holds last text more (Ok done) first second = prints_then old mid new held holds last text more first second
printing_then old mid new held holds last text more (Err fault) first cut = cut_then old mid new held holds text more fault first.moved cut

-- what was given stays so
appends_kept : (old mid new : Option (List ℕ)) (bytes : List ℕ) → Appends old mid bytes → Keeps mid new → Appends old new bytes
appends_kept None mid new bytes moved kept = tt
appends_kept (Some xs) None new bytes moved kept = absurd moved
appends_kept (Some xs) (Some ys) None bytes moved kept = absurd kept
appends_kept (Some xs) (Some ys) (Some zs) bytes moved kept = kept ∙ moved

-- a call of the sink failed, or memory ran out, after the beginning of a text was given
pub cut_failed : (old mid new : SinkView) (text : List ℕ) (given : ℕ) → Gave old mid (take given text) → Keeps mid.written new.written → given < length text
    → new.faults ≡ mid.faults + 1 → FailedLast new.just_failed → IsCutOff old new [] text errors.WriteFault
cut_failed old mid new text given gave same less counted last = record {
  given = take given text;
  lost = drop given text;
  moved = appends_kept old.written mid.written new.written (take given text) gave.moved same;
  split = sym (take-append-drop given text);
  why = inl (refl, counted ∙ ap (λ (n : ℕ). n + 1) gave.calm, last, omega (arith, length-drop given text, less));
}

pub cut_wanted : (old mid new : SinkView) (text : List ℕ) (given : ℕ) → Gave old mid (take given text) → Keeps mid.written new.written
    → new.faults ≡ mid.faults → IsCutOff old new [] text errors.NoMemory
cut_wanted old mid new text given gave same calm = record {
  given = take given text;
  lost = drop given text;
  moved = appends_kept old.written mid.written new.written (take given text) gave.moved same;
  split = sym (take-append-drop given text);
  why = inr (refl, calm ∙ gave.calm);
}

-- a front of a piece and the rest of it
pub front_rest : (count : ℕ) (held shown rest : List ℕ) → shown ≡ held → rest ≡ drop count held → held ≡ take count shown ++ rest
front_rest count held shown rest same left =
    sym (take-append-drop count held) ∙ ap (λ (l : List ℕ). take count l ++ drop count held) (sym same)
    ∙ ap (λ (l : List ℕ). take count shown ++ l) (sym left)

-- what giving the front of a piece results in, of which the rest is held
pub prints_front : (old new : SinkView) (held front rest : List ℕ) → held ≡ front ++ rest → length rest < MOST_GIVEN → Gave old new front
    → Prints old new held rest []
prints_front old new held front rest all few giving =
    record { moved = record { given = front; gave = giving; split = append-nil held ∙ all }; few = few }

pub cut_front : (old new : SinkView) (held front rest : List ℕ) (fault : PrintError) → held ≡ front ++ rest → IsCutOff old new [] front fault
    → IsCutOff old new held [] fault
cut_front old new held front rest fault all cut = record {
  given = cut.given;
  lost = cut.lost ++ rest;
  moved = cut.moved;
  split = append-nil held ∙ all ∙ ap (λ (l : List ℕ). l ++ rest) cut.split ∙ append_assoc cut.given cut.lost rest;
  why = why_more old new cut.lost rest fault cut.why;
}

-- a text was printed, and then what the piece held was given
pub giving_last : {T : Type 0} (old mid new : SinkView) (holds shown text : List ℕ) (result : Result T PrintError) → Prints old mid [] holds text
    → shown ≡ holds → MatchResult result (λ done. Gave mid new shown) (λ fault. IsCutOff mid new [] shown fault)
    → MatchResult result (λ done. Gave old new text) (λ fault. IsCutOff old new [] text fault)
giving_last old mid new holds shown text (Ok done) first same giving =
    subst (λ (t : List ℕ). Gave old new t) (sym first.moved.split)
    (gave_both old mid new first.moved.given holds first.moved.gave (subst (λ (s : List ℕ). Gave mid new s) same giving))
giving_last old mid new holds shown text (Err fault) first same cut =
    subst (λ (t : List ℕ). IsCutOff old new [] t fault) (append-nil text)
    (cut_then old mid new [] holds text [] fault first.moved
    (let held : IsCutOff mid new [] holds fault = subst (λ (s : List ℕ). IsCutOff mid new [] s fault) same cut in
    record { given = held.given; lost = held.lost; moved = held.moved; split = append-nil holds ∙ held.split; why = held.why }))

-- nothing was printed
pub prints_none : (old : SinkView) (held : List ℕ) → length held < MOST_GIVEN → Prints old old held held []
prints_none old held few = record { moved = record { given = []; gave = gave_none old; split = append-nil held }; few = few }

-- a piece whose length has no whole piece is short, and so is what is left behind the whole pieces
pub few_none : (a b len : ℕ) → a ≡ len → b ≡ len → a - b % 65536 ≡ 0 → len < 65536
few_none a b len first second none =
    let below : b % 65536 < 65536 = mod_below b 65536 (omega arith) in omega (arith, below, first, second, none)

pub few_left : (a b : ℕ) (held rest : List ℕ) → a ≡ length held → b ≡ length held → rest ≡ drop (a - b % 65536) held → length rest < 65536
few_left a b held rest first second is =
    let below : b % 65536 < 65536 = mod_below b 65536 (omega arith) in
    omega (arith, below, first, second, ap length is, length-drop (a - b % 65536) held)

-- a text was appended to the piece, and then what is full was given
pub prints_pushed : (old new : SinkView) (held mid holds text : List ℕ) → mid ≡ held ++ text → Prints old new mid holds []
    → Prints old new held holds text
prints_pushed old new held mid holds text is prints =
    record {
      moved = record { given = prints.moved.given; gave = prints.moved.gave; split = sym is ∙ sym (append-nil mid) ∙ prints.moved.split };
      few = prints.few;
    }

pub cut_pushed : (old new : SinkView) (held mid text : List ℕ) (fault : PrintError) → mid ≡ held ++ text → IsCutOff old new mid [] fault
    → IsCutOff old new held text fault
cut_pushed old new held mid text fault is cut =
    record { given = cut.given; lost = cut.lost; moved = cut.moved; split = sym is ∙ sym (append-nil mid) ∙ cut.split; why = cut.why }

pub printing_pushed : {T : Type 0} (old new : SinkView) (held mid holds text : List ℕ) (result : Result T PrintError) → mid ≡ held ++ text
    → IsPrinting old new mid holds [] result → IsPrinting old new held holds text result
printing_pushed old new held mid holds text (Ok done) is prints = prints_pushed old new held mid holds text is prints
printing_pushed old new held mid holds text (Err fault) is cut = cut_pushed old new held mid text fault is cut

-- the lines of the areas up to one, its line, and the lines of those after it are the lines of all
pub lines_more : (files : List FileRow) (areas : List Record) (index : ℕ) (d : Record) → index < length areas
    → list_text files (take index areas) ++ area_text files (get_or areas index d) ≡ list_text files (take (index + 1) areas)
lines_more files areas index d within =
    ap (λ (l : List ℕ). list_text files (take index areas) ++ l) (sym (append-nil (area_text files (get_or areas index d))))
    ∙ sym (flat_map-append (area_text files) (take index areas) (get_or areas index d ∷ []))
    ∙ ap (list_text files) (sym (take_more areas index d within))

pub lines_split : (files : List FileRow) (areas : List Record) (index : ℕ)
    → list_text files (take index areas) ++ list_text files (drop index areas) ≡ list_text files areas
lines_split files areas index =
    sym (flat_map-append (area_text files) (take index areas) (drop index areas)) ∙ ap (list_text files) (take-append-drop index areas)

pub lines_rest : (files : List FileRow) (areas : List Record) (index : ℕ) (d : Record) → index < length areas
    → (list_text files (take index areas) ++ area_text files (get_or areas index d)) ++ list_text files (drop (index + 1) areas)
    ≡ list_text files areas
lines_rest files areas index d within =
    ap (λ (l : List ℕ). l ++ list_text files (drop (index + 1) areas)) (lines_more files areas index d within)
    ∙ lines_split files areas (index + 1)

-- an error that is known has what holds of it
pub at_error : {T : Type 0} (result : Result T PrintError) (P : T → Type 0) (Q : PrintError → Type 0) (fault : PrintError)
    → IsErrAnd result (λ error. error ≡ fault) → Q fault → MatchResult result P Q
at_error (Ok done) P Q fault is holds = absurd is
at_error (Err error) P Q fault is holds = subst Q (sym is) holds

-- a text has another form
pub printing_as : {T : Type 0} (old new : SinkView) (held holds text whole : List ℕ) (result : Result T PrintError) → text ≡ whole
    → IsPrinting old new held holds text result → IsPrinting old new held holds whole result
printing_as old new held holds text whole result is printing = subst (λ (t : List ℕ). IsPrinting old new held holds t result) is printing

pub prints_as : (old new : SinkView) (held holds text whole : List ℕ) → text ≡ whole → Prints old new held holds text
    → Prints old new held holds whole
prints_as old new held holds text whole is prints = subst (λ (t : List ℕ). Prints old new held holds t) is prints

-- it ended early at the first of two texts
pub cut_first_of : (old new : SinkView) (held first second whole : List ℕ) (fault : PrintError) → first ++ second ≡ whole
    → IsCutOff old new held first fault → IsCutOff old new held whole fault
cut_first_of old new held first second whole fault all cut =
    subst (λ (t : List ℕ). IsCutOff old new held t fault) all (cut_more old new held first second fault cut)
