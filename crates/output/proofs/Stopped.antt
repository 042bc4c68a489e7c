-- Where a walk stops: at a line that differs, where no item can come, and where the text ends.
use Rattle.std.proofs.Common.{ℕ, ◌≡◌, ◌+◌, ◌<◌, ◌≤◌, ◌==◌, ◌∙◌, refl, sym, ap, subst, cond, Bool, true, false, List, [], ◌∷◌, ◌++◌, append_assoc, length, get_or, take, eqb-true, Option, arith}
use Rattle.std.specs.Prelude.{Result, Ok, Err, IfErr, IfOk, OnOk}
use Rattle.std.specs.Result.{IsErrAnd}
use Rattle.std.proofs.lemmas.Bool.{false≢true}
use Rattle.std.proofs.lemmas.List.{take_all}
use Rattle.mm_types.specs.declared.area.Record.{Record}
use Rattle.mm_types.specs.declared.config.Config.{Config}
use Rattle.mm_types.specs.declared.files.FileRow.{FileRow}
use Rattle.mm_types.specs.declared.memory.NoMemory.{NoMemory}
use Rattle.mm_types.specs.MapsText.{area_text, list_text}
use Rattle.trace_reader.specs.declared.trace.Trace.{Trace}
use Rattle.trace_reader.specs.declared.trace.TraceLine.{TraceLine}
use Rattle.area_rules.specs.Steps.{after}
use Rattle.area_rules.specs.Tables.{AddressSpace}
use Rattle.history.specs.declared.items.Content.{Content}
use Rattle.history.specs.Histories.{caller_of, journal_of, is_call, answer_of}
use Rattle.output.specs.Output.{item_text, maps_text, result_text}
use Rattle.output.specs.declared.answers.Answer.{Answer}
use Rattle.output.specs.declared.given.Given.{Given}
use Rattle.output.specs.declared.judgement.Judgement.{Judgement}
use Rattle.output.specs.declared.judging.Walk.{Walk}
use Rattle.output.specs.declared.stop.Stop.{Stop}
use Rattle.output.specs.declared.stop.Stop.TheVariants as stops
use Rattle.output.specs.Judgements.{items_text, IsFirstBadOutputLine, IsJudged, IsLegalText}
use Rattle.output.specs.Internal.Judging.{IsLineLeft, IsEnded, NoneComes, TellsGoodItem, TheOneComes, HasRead, Differs, IsBadAt, IsTextWalked, IsStopRight, end_told, judgement_of}
use Rattle.output.specs.Internal.Printed.{content_of_answer, IsLine, first_text, more_text}
use Rattle.output.proofs.AnsweredTexts.{answers_it, item_good, same_line}
use Rattle.output.proofs.Plain.{area_line}
use Rattle.output.proofs.Compared.{areas_more, differs_more, differs_areas}
use Rattle.output.proofs.Judged.{known_begins, no_item, cut_short, bad_item, bad_list, bad_end, legal_end}
use Rattle.output.proofs.ItemLines.{result_is}
use Rattle.output.proofs.Walked.{stood, Ran, item_with, ran_item, shown_call}

-- a difference from what should come is one from more
pub stop_more : (text wanted more : List ℕ) (stop : Stop) → IsBadAt text wanted stop → IsBadAt text (wanted ++ more) stop
stop_more text wanted more (stops.Bad line) bad = differs_more text wanted more line bad
stop_more text wanted more stops.NoMemory bad = tt

-- a difference in the line of one area is one in those of all
pub stop_areas : (text before : List ℕ) (files : List FileRow) (areas : List Record) (place : ℕ) (d : Record) (stop : Stop) → place < length areas
    → IsBadAt text ((before ++ list_text files (take place areas)) ++ area_text files (get_or areas place d)) stop
    → IsBadAt text (before ++ list_text files areas) stop
stop_areas text before files areas place d (stops.Bad line) within bad =
    differs_areas text before files areas (place + 1) line
    (subst (λ (t : List ℕ). Differs text t line) (areas_more files areas place d before within) bad)
stop_areas text before files areas place d stops.NoMemory within bad = tt

-- what is there after a first part that is none
pub printed_is : (printed old new text : List ℕ) → printed ≡ new → new ≡ old ++ text → old ≡ [] → printed ≡ text
printed_is printed old new text is adds none = is ∙ adds ∙ ap (λ (l : List ℕ). l ++ text) none

-- the printed line of an area
pub area_line_is : (files : List FileRow) (area : Record) (printed old new : List ℕ) → printed ≡ new → new ≡ old ++ area_text files area → old ≡ []
    → IsLine printed
area_line_is files area printed old new is adds none =
    subst (λ (l : List ℕ). IsLine l) (sym (printed_is printed old new (area_text files area) is adds none)) (area_line files area)

-- after the line of one more area
pub areas_step : (text before : List ℕ) (files : List FileRow) (areas : List Record) (place : ℕ) (d : Record) (printed old new : List ℕ) (given : Given)
    → place < length areas → printed ≡ new → new ≡ old ++ area_text files (get_or areas place d) → old ≡ []
    → HasRead text ((before ++ list_text files (take place areas)) ++ printed) given
    → HasRead text (before ++ list_text files (take (place + 1) areas)) given
areas_step text before files areas place d printed old new given within is adds none read =
    subst (λ (t : List ℕ). HasRead text t given)
    (ap (λ (t : List ℕ). (before ++ list_text files (take place areas)) ++ t)
    (printed_is printed old new (area_text files (get_or areas place d)) is adds none)
    ∙ areas_more files areas place d before within) read

pub areas_stop : (text before : List ℕ) (files : List FileRow) (areas : List Record) (place : ℕ) (d : Record) (printed old new : List ℕ) (stop : Stop)
    → place < length areas → printed ≡ new → new ≡ old ++ area_text files (get_or areas place d) → old ≡ []
    → IsBadAt text ((before ++ list_text files (take place areas)) ++ printed) stop → IsBadAt text (before ++ list_text files areas) stop
areas_stop text before files areas place d printed old new stop within is adds none bad =
    stop_areas text before files areas place d stop within
    (subst (λ (t : List ℕ). IsBadAt text ((before ++ list_text files (take place areas)) ++ t) stop)
    (printed_is printed old new (area_text files (get_or areas place d)) is adds none) bad)

-- after the lines of all areas
pub areas_all : (text before : List ℕ) (files : List FileRow) (areas : List Record) (place : ℕ) (given : Given) → length areas ≤ place
    → HasRead text (before ++ list_text files (take place areas)) given → HasRead text (before ++ list_text files areas) given
areas_all text before files areas place given past read =
    subst (λ (l : List Record). HasRead text (before ++ list_text files l) given) (take_all place areas past) read

-- an error that is passed on
pub err_is : {A : Type 0} (answer : Result A Stop) (stop : Stop) (P : Stop → Type 0) → IsErrAnd answer (λ other. other ≡ stop) → P stop → IfErr answer P
err_is (Ok done) stop P is holds = tt
err_is (Err other) stop P is holds = subst P (sym is) holds

-- a first line and lines behind it
pub two_parts : (text before first more whole : List ℕ) (given : Given) → whole ≡ first ++ more → HasRead text ((before ++ first) ++ more) given
    → HasRead text (before ++ whole) given
two_parts text before first more whole given is read =
    subst (λ (t : List ℕ). HasRead text t given) (append_assoc before first more ∙ ap (λ (t : List ℕ). before ++ t) (sym is)) read

pub two_stop : (text before first more whole : List ℕ) (stop : Stop) → whole ≡ first ++ more → IsBadAt text ((before ++ first) ++ more) stop
    → IsBadAt text (before ++ whole) stop
two_stop text before first more whole stop is bad =
    subst (λ (t : List ℕ). IsBadAt text t stop) (append_assoc before first more ∙ ap (λ (t : List ℕ). before ++ t) (sym is)) bad

-- the text differs from that of the next item
pub stop_item : (trace : Trace) (text : List ℕ) (walk : Walk) (walked : IsTextWalked trace text walk) → IsLineLeft trace.lines walk
    → (walk.given.rest.now ≡ [] → ⊥) → (line : TraceLine) (caller version : ℕ) (areas : List Record) (answer : Answer)
    → TheOneComes trace.lines walked.items walk.given.rest.now line caller → Ran trace walk line caller version areas answer
    → (stop : Stop) → IsBadAt text (items_text trace walked.items ++ item_text trace.config.files line (item_with caller version areas answer)) stop
    → IsStopRight trace text stop
stop_item trace text walk walked left some line caller version areas answer comes ran (stops.Bad bad) differs =
    bad_item trace text walked.items walk.given walk.progress line (item_with caller version areas answer) bad (stood trace text walk walked)
    walked.progress (left walked.items walked.progress) some walked.kept.numbered
    (ran_item trace text walk walked line caller version areas answer comes ran) comes.tells differs
stop_item trace text walk walked left some line caller version areas answer comes ran stops.NoMemory differs = tt

-- and it tells the line of that item, which is good
pub tells_item : (trace : Trace) (text : List ℕ) (walk : Walk) (walked : IsTextWalked trace text walk)
    → (line : TraceLine) (caller version : ℕ) (areas : List Record) (answer : Answer)
    → TheOneComes trace.lines walked.items walk.given.rest.now line caller → Ran trace walk line caller version areas answer
    → TellsGoodItem trace walked.items walk.given.rest.now
tells_item trace text walk walked line caller version areas answer comes ran =
    let is = ran_item trace text walk walked line caller version areas answer comes ran in
    record {
      line = line;
      item = item_with caller version areas answer;
      number = comes.number;
      answers = answers_it trace.config trace.lines walked.items line (item_with caller version areas answer) is;
      good = item_good trace.config trace.lines walked.items line (item_with caller version areas answer) is;
    }

-- the text ends where a line of the trace is left
pub stop_short : (trace : Trace) (text : List ℕ) (walk : Walk) → IsTextWalked trace text walk → IsLineLeft trace.lines walk → walk.given.rest.now ≡ []
    → IsFirstBadOutputLine trace text (walk.given.line + 1)
stop_short trace text walk walked left none =
    cut_short trace text walked.items walk.given (stood trace text walk walked) (left walked.items walked.progress) none

-- no item can come next
pub stop_none : (trace : Trace) (text : List ℕ) (walk : Walk) (walked : IsTextWalked trace text walk) → IsLineLeft trace.lines walk
    → (walk.given.rest.now ≡ [] → ⊥) → NoneComes trace.lines walked.items walk.given.rest.now → IsFirstBadOutputLine trace text (walk.given.line + 1)
stop_none trace text walk walked left some none =
    no_item trace text walked.items walk.given (stood trace text walk walked) (left walked.items walked.progress) some
    (λ line item behind known begins.
    none line item.caller (known_begins trace.config trace.lines walked.items walk.given.rest.now behind line item known begins))

-- the item that comes is a read of a lower caller than that of the read before it
pub stop_order : (trace : Trace) (text : List ℕ) (walk : Walk) (walked : IsTextWalked trace text walk) → IsLineLeft trace.lines walk
    → (walk.given.rest.now ≡ [] → ⊥) → (line : TraceLine) (caller : ℕ) (areas : List Record) (answer : Answer)
    → TheOneComes trace.lines walked.items walk.given.rest.now line caller
    → content_of_answer areas answer ≡ answer_of walk.space.config walk.space.space line.op
    → ((is_call (content_of_answer areas answer) ≡ false → walk.progress.lowest ≤ caller) → ⊥) → IsFirstBadOutputLine trace text (walk.given.line + 1)
stop_order trace text walk walked left some line caller areas answer comes made never =
    no_item trace text walked.items walk.given (stood trace text walk walked) (left walked.items walked.progress) some (λ other item behind known begins.
    let config : Config = trace.config in
    let here : AddressSpace = after config (journal_of walked.items) in
    let same : other ≡ line =
    same_line trace.lines walked.items other line item.caller caller walked.kept.numbered known.next comes.next
    (comes.tells other item.caller (known_begins config trace.lines walked.items walk.given.rest.now behind other item known begins)) in
    let owner : item.caller ≡ caller =
    known.owned ∙ ap (λ (l : TraceLine). caller_of trace.lines l.thread) same ∙ sym comes.owned in
    let content : item.content ≡ content_of_answer areas answer =
    known.answer ∙ ap (λ (l : TraceLine). answer_of config here l.op) same
    ∙ ap (λ (s : AddressSpace). answer_of config s line.op) (sym walked.space)
    ∙ ap (λ (c : Config). answer_of c walk.space.space line.op) (sym walked.opened) ∙ sym made in
    never (λ read. omega (arith, known.order (ap is_call content ∙ read), owner, walked.progress.lowest)))

-- the text differs from the final list
pub stop_list : (trace : Trace) (text : List ℕ) (walk : Walk) (walked : IsTextWalked trace text walk) → IsEnded trace.lines walk → (stop : Stop)
    → IsBadAt text (items_text trace walked.items ++ maps_text trace.config.files walk.space.space.areas) stop → IsStopRight trace text stop
stop_list trace text walk walked ended (stops.Bad bad) differs =
    bad_list trace text walked.items walk.given bad (stood trace text walk walked) (ended walked.items walked.progress)
    (subst (λ (s : AddressSpace). Differs text (items_text trace walked.items ++ maps_text trace.config.files s.areas) bad) walked.space differs)
stop_list trace text walk walked ended stops.NoMemory differs = tt

listed : (trace : Trace) (text : List ℕ) (walk : Walk) (walked : IsTextWalked trace text walk) (new : Given)
    → HasRead text (items_text trace walked.items ++ maps_text trace.config.files walk.space.space.areas) new
    → HasRead text (items_text trace walked.items ++ maps_text trace.config.files (after trace.config (journal_of walked.items)).areas) new
listed trace text walk walked new read =
    subst (λ (s : AddressSpace). HasRead text (items_text trace walked.items ++ maps_text trace.config.files s.areas) new) walked.space read

-- the text goes on behind the final list
pub stop_behind : (trace : Trace) (text : List ℕ) (walk : Walk) (walked : IsTextWalked trace text walk) → IsEnded trace.lines walk
    → (new : Given) → HasRead text (items_text trace walked.items ++ maps_text trace.config.files walk.space.space.areas) new
    → walk.given.line ≤ new.line → (new.rest.now ≡ [] → ⊥) → IsFirstBadOutputLine trace text (new.line + 1)
stop_behind trace text walk walked ended new read later some =
    bad_end trace text walked.items walk.given new (stood trace text walk walked) (ended walked.items walked.progress)
    (listed trace text walk walked new read) later some

-- the text ends with the final list
pub ends_whole : (trace : Trace) (text : List ℕ) (walk : Walk) (walked : IsTextWalked trace text walk) → IsEnded trace.lines walk
    → (new : Given) → HasRead text (items_text trace walked.items ++ maps_text trace.config.files walk.space.space.areas) new
    → new.rest.now ≡ [] → IsLegalText trace text
ends_whole trace text walk walked ended new read none =
    legal_end trace text walked.items walk.given new (stood trace text walk walked) (ended walked.items walked.progress)
    (listed trace text walk walked new read) none

-- what was run, by the answer and whether it is a call
pub ran_from : (trace : Trace) (walk : Walk) (line : TraceLine) (caller version : ℕ) (areas : List Record) (answer : Answer) (called : Bool)
    → content_of_answer areas answer ≡ answer_of walk.space.config walk.space.space line.op → called ≡ is_call (content_of_answer [] answer)
    → version ≡ walk.progress.version + cond called 1 0 → (called ≡ false → walk.progress.lowest ≤ caller)
    → Ran trace walk line caller version areas answer
ran_from trace walk line caller version areas answer called made calls counted order =
    let is : called ≡ is_call (content_of_answer areas answer) = calls ∙ sym (shown_call areas answer) in
    record {
      made = made;
      counted = counted ∙ ap (λ (t : Bool). walk.progress.version + cond t 1 0) is;
      order = λ read. order (is ∙ read);
    }

-- an answer that is no call
pub called_no : (called : Bool) (areas : List Record) (answer : Answer) → called ≡ is_call (content_of_answer [] answer) → called ≡ false
    → is_call (content_of_answer areas answer) ≡ false
called_no called areas answer calls read = shown_call areas answer ∙ sym calls ∙ read

-- the version after an item that passed, and the lowest caller that may read
pub passed_version : (old new version : ℕ) (called : Bool) → new ≡ old + cond called 1 0 → version ≡ old + cond called 1 0 → new ≡ version
passed_version old new version called one two = one ∙ sym two

pub passed_lowest : (new caller : ℕ) (areas : List Record) (answer : Answer) (called : Bool) → called ≡ is_call (content_of_answer [] answer)
    → new ≡ cond called 0 caller → new ≡ cond (is_call (content_of_answer areas answer)) 0 caller
passed_lowest new caller areas answer called calls is =
    is ∙ ap (λ (t : Bool). cond t 0 caller) (calls ∙ sym (shown_call areas answer))

-- a result that is right for one reason is right for what follows
pub on_ok : {A : Type 0} (answer : Result A Stop) (P Q : Type 0) → (P → Q) → OnOk answer P → OnOk answer Q
on_ok (Ok done) P Q follows holds = follows holds
on_ok (Err stop) P Q follows holds = tt

pub if_err : {A : Type 0} (answer : Result A Stop) (P Q : Stop → Type 0) → ((stop : Stop) → P stop → Q stop) → IfErr answer P → IfErr answer Q
if_err (Ok done) P Q follows holds = tt
if_err (Err stop) P Q follows holds = follows stop holds

-- the first line of an item, as it is printed
pub item_printed : (printed new mid old start first : List ℕ) → printed ≡ new → new ≡ mid ++ first → mid ≡ old ++ start → old ≡ []
    → printed ≡ start ++ first
item_printed printed new mid old start first is adds begins none =
    is ∙ adds ∙ ap (λ (l : List ℕ). l ++ first) (begins ∙ ap (λ (l : List ℕ). l ++ start) none)

-- its parts
pub item_parts : (files : List FileRow) (child : Option ℕ) (content : Content) (start more : List ℕ) → more ≡ more_text files child content
    → start ++ result_text files child content ≡ (start ++ first_text child content) ++ more
item_parts files child content start more is =
    ap (λ (t : List ℕ). start ++ t) (result_is files child content ∙ ap (λ (t : List ℕ). first_text child content ++ t) (sym is))
    ∙ sym (append_assoc start (first_text child content) more)

-- bytes are none where there are none
pub none_long : (text : List ℕ) → length text ≡ 0 → text ≡ []
none_long [] long = refl
none_long (c ∷ text) long = absurd (omega arith)

-- what is told of the text behind the final list is right
pub end_right : (trace : Trace) (text : List ℕ) (walk : Walk) (walked : IsTextWalked trace text walk) → IsEnded trace.lines walk
    → (new : Given) (listed result : Result (Unit {0}) Stop)
    → OnOk listed (HasRead text (items_text trace walked.items ++ maps_text trace.config.files walk.space.space.areas) new)
    → IfErr listed (IsBadAt text (items_text trace walked.items ++ maps_text trace.config.files walk.space.space.areas))
    → OnOk listed (walk.given.line ≤ new.line) → result ≡ end_told new listed
    → OnOk result (IsLegalText trace text) × IfErr result (IsStopRight trace text)
end_right trace text walk walked ended new listed result read bad later is =
    subst (λ (r : Result (Unit {0}) Stop). OnOk r (IsLegalText trace text) × IfErr r (IsStopRight trace text)) (sym is)
    (told listed read bad later)
  where
    by_end : (done : Unit {0}) (empty : Bool) → (length new.rest.now == 0) ≡ empty
        → HasRead text (items_text trace walked.items ++ maps_text trace.config.files walk.space.space.areas) new → walk.given.line ≤ new.line
        → OnOk (cond empty (Ok done) (Err (stops.Bad (new.line + 1)))) (IsLegalText trace text)
        × IfErr (cond empty (Ok done) (Err (stops.Bad (new.line + 1)))) (IsStopRight trace text)
    by_end done true is read later =
        (ends_whole trace text walk walked ended new read (none_long new.rest.now (eqb-true (length new.rest.now) 0 is)), tt)
    by_end done false is read later = (
      tt,
      stop_behind trace text walk walked ended new read later
          (λ none. false≢true (sym is ∙ ap (λ (bytes : List ℕ). length bytes == 0) none)),
    )

    told : (listed : Result (Unit {0}) Stop)
        → OnOk listed (HasRead text (items_text trace walked.items ++ maps_text trace.config.files walk.space.space.areas) new)
        → IfErr listed (IsBadAt text (items_text trace walked.items ++ maps_text trace.config.files walk.space.space.areas))
        → OnOk listed (walk.given.line ≤ new.line)
        → OnOk (end_told new listed) (IsLegalText trace text) × IfErr (end_told new listed) (IsStopRight trace text)
    told (Err stop) read bad later = (tt, stop_list trace text walk walked ended stop bad)
    told (Ok done) read bad later = by_end done (length new.rest.now == 0) refl read later

-- and so is what is judged of the whole text
pub judged_right : (trace : Trace) (text : List ℕ) (walked : Result (Unit {0}) Stop) (result : Result Judgement NoMemory)
    → OnOk walked (IsLegalText trace text) → IfErr walked (IsStopRight trace text) → result ≡ judgement_of walked
    → IfOk result (IsJudged trace text)
judged_right trace text walked result legal told is =
    subst (λ (r : Result Judgement NoMemory). IfOk r (IsJudged trace text)) (sym is) (judged walked legal told)
  where
    judged : (walked : Result (Unit {0}) Stop) → OnOk walked (IsLegalText trace text) → IfErr walked (IsStopRight trace text)
        → IfOk (judgement_of walked) (IsJudged trace text)
    judged (Ok done) legal told = legal
    judged (Err (stops.Bad line)) legal told = told
    judged (Err stops.NoMemory) legal told = tt
