-- What a walk over a text shows: which items each right text begins with that agrees so far, and which line is the first bad one.
use Rattle.std.proofs.Common.{ℕ, zero, suc, ◌≡◌, ◌+◌, ◌<◌, ◌≤◌, ◌∙◌, refl, sym, ap, subst, List, [], ◌∷◌, ◌++◌, append_assoc, append-nil, length, length-append, take, slice_get, Some, arith, inl, inr}
use Rattle.std.specs.List.{concat}
use Rattle.std.proofs.Math.Seq.{take-append_seam, take-append-le}
use Rattle.std.proofs.lemmas.Bool.{cases_eq}
use Rattle.std.proofs.lemmas.Option.{slice_get_within, same_Some}
use Rattle.mm_types.specs.declared.config.Config.{Config}
use Rattle.trace_reader.specs.declared.trace.Trace.{Trace}
use Rattle.trace_reader.specs.declared.trace.TraceLine.{TraceLine}
use Rattle.trace_reader.specs.Values.{AreNumbered, child_of}
use Rattle.area_rules.specs.Steps.{after}
use Rattle.history.specs.declared.items.Item.{Item}
use Rattle.history.specs.Histories.{journal_of}
use Rattle.history.specs.Checking.{IsGood, AreGood}
use Rattle.history.specs.Coming.{ProgressView, IsProgress, HasNoneLeft}
use Rattle.output.specs.Output.{item_start, result_text, item_text, told_by, maps_text, listed_text, output_text}
use Rattle.output.specs.declared.given.Given.{Given}
use Rattle.output.specs.TextLines.{text_lines}
use Rattle.output.specs.Judgements.{IsEnding, items_text, IsRightText, FitsSoFar, IsLegalText, IsFirstBadOutputLine}
use Rattle.output.specs.Internal.Judging.{Begins, HasRead, Differs}
use Rattle.output.proofs.TextLines.{joined, agree_fewer, start_agrees}
use Rattle.output.proofs.ItemLines.{start_plain}
use Rattle.output.proofs.Compared.{read_agrees, read_behind, differs_behind}
use Rattle.output.proofs.ItemTexts.{text_next, text_more}
use Rattle.output.proofs.AnsweredTexts.{IsItemOf, Known, answers_it, item_good, good_line, good_known, same_line, same_item}
use Rattle.output.proofs.Endings.{left_ending, whole_ending, some_ending, none_next}

-- what a walk has shown of the items whose text it compared
pub record Stood (trace : Trace) (text : List ℕ) (items : List Item) (given : Given) : Type 0 where
  pub good : AreGood trace.config [] trace.lines items (length items)
  pub read : HasRead text (items_text trace items) given
  pub forced : (others : List Item) (right : List ℕ) → IsRightText trace others right
      → take given.line (text_lines right) ≡ take given.line (text_lines text) → (more : List Item) × (others ≡ items ++ more)

-- the items of a right text that agrees in more lines begin with those
begins : (trace : Trace) (text : List ℕ) (items : List Item) (given : Given) (others : List Item) (right : List ℕ) (count : ℕ)
    → Stood trace text items given → IsRightText trace others right → given.line ≤ count
    → take count (text_lines right) ≡ take count (text_lines text) → (more : List Item) × (others ≡ items ++ more)
begins trace text items given others right count stood is within agree =
    stood.forced others right is (agree_fewer right text given.line count within agree)

-- the text of the items so far is that of a right text
pub fits_so_far : (trace : Trace) (text : List ℕ) (items : List Item) (given : Given) (ending : List ℕ) (count : ℕ)
    → Stood trace text items given → IsEnding trace.config trace.lines items ending → count ≤ given.line → FitsSoFar trace text count
fits_so_far trace text items given ending count stood ends within = record {
  items = items;
  text = items_text trace items ++ ending;
  right = record { good = stood.good; ending = ending; ends = ends; is = refl };
  agree = read_agrees text (items_text trace items) ending given count stood.read within;
}

-- a text has a first line, unless it is empty
none_agrees : (text : List ℕ) (lines : List (List ℕ)) → text_lines text ≡ lines → take 1 (text_lines []) ≡ take 1 lines → text ≡ []
unfolding text_lines
none_agrees text [] is agree = sym (joined text) ∙ ap concat is
none_agrees text (line ∷ lines) is agree = absurd (cc)

-- the items of a right text that agrees in one line more are more, where a line of the trace is left
pub more_items : (trace : Trace) (text : List ℕ) (items : List Item) (given : Given) (others more : List Item) (right : List ℕ)
    → HasRead text (items_text trace items) given → (HasNoneLeft trace.lines items → ⊥) → (given.rest.now ≡ [] → ⊥)
    → IsRightText trace others right → others ≡ items ++ more
    → take (given.line + 1) (text_lines right) ≡ take (given.line + 1) (text_lines text) → more ≡ [] → ⊥
more_items trace text items given others more right read left some is whole agree none =
    let same : others ≡ items = whole ∙ ap (λ (l : List Item). items ++ l) none ∙ append-nil items in
    let ending : is.ending ≡ [] = is.ends.going_on (λ all. left (subst (HasNoneLeft trace.lines) same all)) in
    let text_is : right ≡ items_text trace items ++ [] =
    is.is ∙ ap (λ (t : List ℕ). items_text trace others ++ t) ending ∙ ap (λ (l : List Item). items_text trace l ++ []) same in
    some (none_agrees given.rest.now (text_lines given.rest.now) refl
    (read_behind text (items_text trace items) [] given 1 read
    (ap (λ (t : List ℕ). take (given.line + 1) (text_lines t)) (sym text_is) ∙ agree)))

-- the next item of a right text
pub record Comes (trace : Trace) (items : List Item) (rest right : List ℕ) (others : List Item) : Type 0 where
  pub item : Item
  pub line : TraceLine
  pub later : List Item
  pub whole : others ≡ items ++ item ∷ later
  pub known : Known trace.config trace.lines items line item
  pub behind : List ℕ
  pub begins : rest ≡ item_start line item.version ++ behind
  pub ending : List ℕ
  pub is : right ≡ (items_text trace items ++ item_text trace.config.files line item) ++ ending

middle : {A : Type 0} (xs : List A) (y : A) (ys : List A) → slice_get (xs ++ y ∷ ys) (length xs) ≡ Some y
middle [] y ys = refl
middle (x ∷ xs) y ys = middle xs y ys

start_begins : (line : TraceLine) (version : ℕ) (rest text : List ℕ)
    → take 1 (text_lines (item_start line version ++ rest)) ≡ take 1 (text_lines text) → (behind : List ℕ) × (text ≡ item_start line version ++ behind)
unfolding item_start
start_begins line version rest text agree = start_agrees _ _ rest text 0 (start_plain line version).none agree

pub comes : (trace : Trace) (text : List ℕ) (items : List Item) (given : Given) (others more : List Item) (right : List ℕ)
    → HasRead text (items_text trace items) given → (more ≡ [] → ⊥)
    → IsRightText trace others right → others ≡ items ++ more
    → take (given.line + 1) (text_lines right) ≡ take (given.line + 1) (text_lines text)
    → Comes trace items given.rest.now right others
comes trace text items given others [] right read some is whole agree = absurd (some refl)
comes trace text items given others (item ∷ later) right read some is whole agree =
    let config : Config = trace.config in
    let lines : List TraceLine = trace.lines in
    let found : slice_get others (length items) ≡ Some item =
    ap (λ (l : List Item). slice_get l (length items)) whole ∙ middle items item later in
    let front : take (length items) others ≡ items =
    ap (take (length items)) whole ∙ take-append_seam items (item ∷ later) in
    let good : IsGood config [] lines items item =
    subst (λ (l : List Item). IsGood config [] lines l item) front
    (is.good (length items) item (slice_get_within others (length items) item found) found) in
    let its = good_line config lines items item good in
    let line : TraceLine = its.0 in
    let start : List ℕ = item_start line item.version in
    let result : List ℕ = result_text config.files (child_of line.op) item.content in
    let told : List ℕ = told_by (item_text config.files) lines (items ++ item ∷ []) later in
    let text_is : right ≡ items_text trace items ++ ((start ++ result) ++ (told ++ is.ending)) =
    is.is ∙ ap (λ (l : List Item). items_text trace l ++ is.ending) whole
    ∙ ap (λ (t : List ℕ). t ++ is.ending) (text_next trace items item line later its.1)
    ∙ append_assoc (items_text trace items) ((start ++ result) ++ told) is.ending
    ∙ ap (λ (t : List ℕ). items_text trace items ++ t) (append_assoc (start ++ result) told is.ending) in
    let regrouped : right ≡ items_text trace items ++ (start ++ (result ++ (told ++ is.ending))) =
    text_is ∙ ap (λ (t : List ℕ). items_text trace items ++ t) (append_assoc start result (told ++ is.ending)) in
    let first = start_begins line item.version (result ++ (told ++ is.ending)) given.rest.now
    (read_behind text (items_text trace items) (start ++ (result ++ (told ++ is.ending))) given 1 read
    (ap (λ (t : List ℕ). take (given.line + 1) (text_lines t)) (sym regrouped) ∙ agree)) in
    record {
      item = item;
      line = line;
      later = later;
      whole = whole;
      known = good_known config lines items line item good its.1;
      behind = first.0;
      begins = first.1;
      ending = told ++ is.ending;
      is = text_is ∙ sym (append_assoc (items_text trace items) (start ++ result) (told ++ is.ending));
    }

-- where no item can come next, the next line is the first bad one
pub no_item : (trace : Trace) (text : List ℕ) (items : List Item) (given : Given) → Stood trace text items given
    → (HasNoneLeft trace.lines items → ⊥) → (given.rest.now ≡ [] → ⊥)
    → ((line : TraceLine) (item : Item) (behind : List ℕ) → Known trace.config trace.lines items line item
    → given.rest.now ≡ item_start line item.version ++ behind → ⊥)
    → IsFirstBadOutputLine trace text (given.line + 1)
no_item trace text items given stood left some never = record {
  before = λ count below. fits_so_far trace text items given [] count stood (left_ending trace.config trace.lines items left) (omega arith);
  bad = inl (λ fits.
      let more = begins trace text items given fits.items fits.text (given.line + 1) stood fits.right (omega arith) fits.agree in
      let next = comes trace text items given fits.items more.0 fits.text stood.read
      (more_items trace text items given fits.items more.0 fits.text stood.read left some fits.right more.1 fits.agree) fits.right more.1 fits.agree in
      never next.line next.item next.behind next.known next.begins);
}

-- a legal text is a right one
pub legal_right : (trace : Trace) (text : List ℕ) (legal : IsLegalText trace text) → IsRightText trace legal.items text
unfolding output_text listed_text
legal_right trace text legal = record {
  good = λ place item below found. record { stands = legal.legal.stands place item found; right = legal.legal.right place item found };
  ending = maps_text trace.config.files (after trace.config (journal_of legal.items)).areas;
  ends = whole_ending trace.config trace.lines legal.items legal.legal.none_left;
  is = legal.is;
}

starts : (line : TraceLine) (version : ℕ) (behind : List ℕ) → [] ≡ item_start line version ++ behind → ⊥
unfolding item_start
starts line version behind same = cc

-- where the text ends before the lines of the trace do, the line behind it is missing
pub cut_short : (trace : Trace) (text : List ℕ) (items : List Item) (given : Given) → Stood trace text items given
    → (HasNoneLeft trace.lines items → ⊥) → given.rest.now ≡ [] → IsFirstBadOutputLine trace text (given.line + 1)
cut_short trace text items given stood left none =
    let ends = left_ending trace.config trace.lines items left in
    let all : text ≡ items_text trace items ++ [] = stood.read.is ∙ ap (λ (t : List ℕ). items_text trace items ++ t) none in
    record {
      before = λ count below. fits_so_far trace text items given [] count stood ends (omega arith);
      bad = inr (record {
        fits = λ count. record {
          items = items;
          text = items_text trace items ++ [];
          right = record { good = stood.good; ending = []; ends = ends; is = refl };
          agree = ap (λ (t : List ℕ). take count (text_lines t)) (sym all);
        };
        short = λ legal.
            let right = legal_right trace text legal in
            let more = stood.forced legal.items text right refl in
            let next = comes trace text items given legal.items more.0 text stood.read
            (λ nothing.
            left (subst (HasNoneLeft trace.lines) (more.1 ∙ ap (λ (l : List Item). items ++ l) nothing ∙ append-nil items) legal.legal.none_left))
            right more.1 refl in
            starts next.line next.item.version next.behind (sym none ∙ next.begins);
        behind = ap (λ (n : ℕ). n + 1)
            (stood.read.counted ∙ ap (λ (t : List ℕ). length (text_lines t)) (sym (all ∙ append-nil (items_text trace items))));
      });
    }

-- the line of the next item, as the text tells
abbrev pub Tells : List TraceLine → List Item → List ℕ → TraceLine → Type 0
Tells lines items rest line = (other : TraceLine) (teller : ℕ) → Begins lines items rest other teller → other.number ≡ line.number

-- the line of the item that comes, as the text tells
pub known_begins : (config : Config) (lines : List TraceLine) (items : List Item) (rest behind : List ℕ) (line : TraceLine) (item : Item)
    → Known config lines items line item → rest ≡ item_start line item.version ++ behind → Begins lines items rest line item.caller
known_begins config lines items rest behind line item known begins = record {
  next = known.next;
  owned = known.owned;
  told = known.told;
  version = item.version;
  behind = behind;
  begins = begins;
}

-- the next item of each right text that agrees in the next line
the_item : (trace : Trace) (items : List Item) (rest right : List ℕ) (others : List Item) (line : TraceLine) (item : Item)
    → AreNumbered trace.lines → IsItemOf trace.config trace.lines items line item → Tells trace.lines items rest line
    → (next : Comes trace items rest right others)
    → (others ≡ items ++ item ∷ next.later) × (right ≡ (items_text trace items ++ item_text trace.config.files line item) ++ next.ending)
the_item trace items rest right others line item numbered is tells next =
    let mine : Known trace.config trace.lines items line item =
    good_known trace.config trace.lines items line item (item_good trace.config trace.lines items line item is)
    (answers_it trace.config trace.lines items line item is) in
    let same : next.line ≡ line =
    same_line trace.lines items next.line line next.item.caller item.caller numbered next.known.next is.next
    (tells next.line next.item.caller (known_begins trace.config trace.lines items rest next.behind next.line next.item next.known next.begins)) in
    let known : Known trace.config trace.lines items line next.item =
    subst (λ (l : TraceLine). Known trace.config trace.lines items l next.item) same next.known in
    let one : next.item ≡ item = same_item trace.config trace.lines items line item next.item mine known in (
      next.whole ∙ ap (λ (i : Item). items ++ i ∷ next.later) one,
      next.is
          ∙ ap (λ (l : TraceLine). (items_text trace items ++ item_text trace.config.files l next.item) ++ next.ending) same
          ∙ ap (λ (i : Item). (items_text trace items ++ item_text trace.config.files line i) ++ next.ending) one,
    )

good_push : (config : Config) (lines : List TraceLine) (items : List Item) (item : Item) → AreGood config [] lines items (length items)
    → IsGood config [] lines items item → AreGood config [] lines (items ++ item ∷ []) (length (items ++ item ∷ []))
good_push config lines items item good last = λ place other below found.
    let long : length (items ++ item ∷ []) ≡ length items + 1 = length-append items (item ∷ []) in
    elim (cases_eq place (length items)) [
      | inl level ↦
          let is : item ≡ other =
          same_Some item other (sym (middle items item []) ∙ ap (slice_get (items ++ item ∷ [])) (sym level) ∙ found) in
          let front : take place (items ++ item ∷ []) ≡ items =
          ap (λ (n : ℕ). take n (items ++ item ∷ [])) level ∙ take-append_seam items (item ∷ []) in
          subst (λ (l : List Item). IsGood config [] lines l other) (sym front) (subst (λ (i : Item). IsGood config [] lines items i) is last)
      | inr apart ↦
          let within : place < length items = omega (arith, long, below) in
          let front : take place (items ++ item ∷ []) ≡ take place items = take-append-le place items (item ∷ []) (omega arith) in
          subst (λ (l : List Item). IsGood config [] lines l other) (sym front)
          (good place other within (sym (first_found items (item ∷ []) place within) ∙ found))
    ]
  where
    first_found : (xs ys : List Item) (place : ℕ) → place < length xs → slice_get (xs ++ ys) place ≡ slice_get xs place
    first_found [] ys place within = absurd (omega arith)
    first_found (x ∷ xs) ys zero within = refl
    first_found (x ∷ xs) ys (suc place) within = first_found xs ys place (omega arith)

-- where the text differs from that of the next item, it does so at the first bad line
pub bad_item : (trace : Trace) (text : List ℕ) (items : List Item) (given : Given) (progress : ProgressView) (line : TraceLine) (item : Item) (bad : ℕ)
    → Stood trace text items given → IsProgress trace.lines items progress → (HasNoneLeft trace.lines items → ⊥) → (given.rest.now ≡ [] → ⊥)
    → AreNumbered trace.lines → IsItemOf trace.config trace.lines items line item → Tells trace.lines items given.rest.now line
    → Differs text (items_text trace items ++ item_text trace.config.files line item) bad → IsFirstBadOutputLine trace text bad
bad_item trace text items given progress line item bad stood going left some numbered is tells differs =
    let config : Config = trace.config in
    let lines : List TraceLine = trace.lines in
    let answers = answers_it config lines items line item is in
    let ends = some_ending config lines items item line progress going is.next in
    let late : given.line < bad = differs_behind text (items_text trace items) (item_text config.files line item) given bad stood.read differs in
    record {
      before = λ count below. record {
        items = items ++ item ∷ [];
        text = items_text trace (items ++ item ∷ []) ++ ends.0;
        right = record {
          good = good_push config lines items item stood.good (item_good config lines items line item is);
          ending = ends.0;
          ends = ends.1;
          is = refl;
        };
        agree = ap (λ (t : List ℕ). take count (text_lines (t ++ ends.0))) (text_more trace items item line answers)
            ∙ differs.before count ends.0 below;
      };
      bad = inl (λ fits.
          let more = begins trace text items given fits.items fits.text bad stood fits.right (omega arith) fits.agree in
          let one = agree_fewer fits.text text (given.line + 1) bad (omega arith) fits.agree in
          let next = comes trace text items given fits.items more.0 fits.text stood.read
          (more_items trace text items given fits.items more.0 fits.text stood.read left some fits.right more.1 one) fits.right more.1 one in
          let same = the_item trace items given.rest.now fits.text fits.items line item numbered is tells next in
          differs.here next.ending (ap (λ (t : List ℕ). take bad (text_lines t)) (sym same.1) ∙ fits.agree));
    }

-- after an item whose text agrees
pub good_item : (trace : Trace) (text : List ℕ) (items : List Item) (old new : Given) (line : TraceLine) (item : Item)
    → Stood trace text items old → (HasNoneLeft trace.lines items → ⊥) → (old.rest.now ≡ [] → ⊥) → AreNumbered trace.lines
    → IsItemOf trace.config trace.lines items line item → Tells trace.lines items old.rest.now line → old.line < new.line
    → HasRead text (items_text trace items ++ item_text trace.config.files line item) new → Stood trace text (items ++ item ∷ []) new
good_item trace text items old new line item stood left some numbered is tells later read =
    let config : Config = trace.config in
    let lines : List TraceLine = trace.lines in
    record {
      good = good_push config lines items item stood.good (item_good config lines items line item is);
      read = subst (λ (t : List ℕ). HasRead text t new) (sym (text_more trace items item line (answers_it config lines items line item is))) read;
      forced = λ others right is_right agree.
          let more = begins trace text items old others right new.line stood is_right (omega arith) agree in
          let one = agree_fewer right text (old.line + 1) new.line (omega arith) agree in
          let next = comes trace text items old others more.0 right stood.read
          (more_items trace text items old others more.0 right stood.read left some is_right more.1 one) is_right more.1 one in
          let same = the_item trace items old.rest.now right others line item numbered is tells next in
          (next.later, same.0 ∙ sym (append_assoc items (item ∷ []) next.later));
    }

-- where no line is left, a right text that agrees so far has no other item, and ends with the list
whole_text : (trace : Trace) (text : List ℕ) (items : List Item) (given : Given) (others : List Item) (right : List ℕ) (count : ℕ)
    → Stood trace text items given → HasNoneLeft trace.lines items → IsRightText trace others right → given.line ≤ count
    → take count (text_lines right) ≡ take count (text_lines text)
    → right ≡ items_text trace items ++ maps_text trace.config.files (after trace.config (journal_of items)).areas
whole_text trace text items given others right count stood all is within agree =
    let config : Config = trace.config in
    let more = begins trace text items given others right count stood is within agree in
    let none : more.0 ≡ [] = no_more more.0 more.1 in
    let same : others ≡ items = more.1 ∙ ap (λ (l : List Item). items ++ l) none ∙ append-nil items in
    is.is ∙ ap (λ (t : List ℕ). items_text trace others ++ t) (is.ends.ended (subst (HasNoneLeft trace.lines) (sym same) all))
    ∙ ap (λ (l : List Item). items_text trace l ++ maps_text config.files (after config (journal_of l)).areas) same
  where
    no_more : (more : List Item) → others ≡ items ++ more → more ≡ []
    no_more [] whole = refl
    no_more (item ∷ later) whole =
        let found : slice_get others (length items) ≡ Some item =
        ap (λ (l : List Item). slice_get l (length items)) whole ∙ middle items item later in
        let front : take (length items) others ≡ items =
        ap (take (length items)) whole ∙ take-append_seam items (item ∷ later) in
        let good : IsGood trace.config [] trace.lines items item =
        subst (λ (l : List Item). IsGood trace.config [] trace.lines l item) front
        (is.good (length items) item (slice_get_within others (length items) item found) found) in
        let its = good_line trace.config trace.lines items item good in
        absurd (none_next trace.lines items item.caller its.0 all (good_known trace.config trace.lines items its.0 item good its.1).next)

-- where the text differs from the final list
pub bad_list : (trace : Trace) (text : List ℕ) (items : List Item) (given : Given) (bad : ℕ) → Stood trace text items given
    → HasNoneLeft trace.lines items
    → Differs text (items_text trace items ++ maps_text trace.config.files (after trace.config (journal_of items)).areas) bad
    → IsFirstBadOutputLine trace text bad
bad_list trace text items given bad stood all differs =
    let ending : List ℕ = maps_text trace.config.files (after trace.config (journal_of items)).areas in
    let wanted : List ℕ = items_text trace items ++ ending in
    let late : given.line < bad = differs_behind text (items_text trace items) ending given bad stood.read differs in
    record {
      before = λ count below. record {
        items = items;
        text = wanted;
        right = record { good = stood.good; ending = ending; ends = whole_ending trace.config trace.lines items all; is = refl };
        agree = ap (λ (t : List ℕ). take count (text_lines t)) (sym (append-nil wanted)) ∙ differs.before count [] below;
      };
      bad = inl (λ fits.
          let is = whole_text trace text items given fits.items fits.text bad stood all fits.right (omega arith) fits.agree in
          differs.here [] (ap (λ (t : List ℕ). take bad (text_lines t)) (append-nil wanted ∙ sym is) ∙ fits.agree));
    }

-- where the text goes on behind the final list
pub bad_end : (trace : Trace) (text : List ℕ) (items : List Item) (old new : Given) → Stood trace text items old → HasNoneLeft trace.lines items
    → HasRead text (items_text trace items ++ maps_text trace.config.files (after trace.config (journal_of items)).areas) new
    → old.line ≤ new.line → (new.rest.now ≡ [] → ⊥) → IsFirstBadOutputLine trace text (new.line + 1)
bad_end trace text items old new stood all read later some =
    let ending : List ℕ = maps_text trace.config.files (after trace.config (journal_of items)).areas in
    let wanted : List ℕ = items_text trace items ++ ending in
    record {
      before = λ count below. record {
        items = items;
        text = wanted;
        right = record { good = stood.good; ending = ending; ends = whole_ending trace.config trace.lines items all; is = refl };
        agree = ap (λ (t : List ℕ). take count (text_lines t)) (sym (append-nil wanted)) ∙ read_agrees text wanted [] new count read (omega arith);
      };
      bad = inl (λ fits.
          let is = whole_text trace text items old fits.items fits.text (new.line + 1) stood all fits.right (omega arith) fits.agree in
          some (none_agrees new.rest.now (text_lines new.rest.now) refl
          (read_behind text wanted [] new 1 read
          (ap (λ (t : List ℕ). take (new.line + 1) (text_lines t)) (append-nil wanted ∙ sym is) ∙ fits.agree))));
    }

-- where the text ends with the final list it is legal
pub legal_end : (trace : Trace) (text : List ℕ) (items : List Item) (old new : Given) → Stood trace text items old → HasNoneLeft trace.lines items
    → HasRead text (items_text trace items ++ maps_text trace.config.files (after trace.config (journal_of items)).areas) new
    → new.rest.now ≡ [] → IsLegalText trace text
unfolding output_text listed_text
legal_end trace text items old new stood all read none = record {
  items = items;
  legal = record {
    stands = λ place item found. (stood.good place item (slice_get_within items place item found) found).stands;
    right = λ place item found. (stood.good place item (slice_get_within items place item found) found).right;
    none_left = all;
  };
  is = read.is ∙ ap (λ (t : List ℕ). (items_text trace items ++ maps_text trace.config.files (after trace.config (journal_of items)).areas) ++ t) none
      ∙ append-nil (items_text trace items ++ maps_text trace.config.files (after trace.config (journal_of items)).areas);
}

-- a text with a first bad line is not legal
pub bad_legal : (trace : Trace) (text : List ℕ) (line : ℕ) → IsFirstBadOutputLine trace text line → IsLegalText trace text → ⊥
bad_legal trace text line first legal = elim first.bad [
  | inl never ↦ never (record { items = legal.items; text = text; right = legal_right trace text legal; agree = refl })
  | inr early ↦ early.short legal
]
