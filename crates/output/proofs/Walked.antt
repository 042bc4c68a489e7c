-- For the methods of `Walk`: before the first item, at the next, and after it.
use Rattle.std.proofs.Common.{ℕ, ◌≡◌, ◌+◌, ◌-◌, ◌^◌, ◌<◌, ◌≤◌, ◌∙◌, refl, sym, ap, subst, cond, Bool, false, List, [], ◌∷◌, ◌++◌, length, get_or, set, arith}
use Rattle.mm_types.specs.declared.area.Record.{Record}
use Rattle.mm_types.specs.declared.config.Config.{Config}
use Rattle.mm_types.specs.Config.{IsValidConfig}
use Rattle.trace_reader.specs.declared.trace.Trace.{Trace}
use Rattle.trace_reader.specs.declared.trace.TraceLine.{TraceLine}
use Rattle.trace_reader.specs.Values.{IsLineValue}
use Rattle.area_rules.specs.Tables.{AddressSpace}
use Rattle.area_rules.specs.Steps.{after, opening}
use Rattle.area_rules.proofs.Journals.{after-nil}
use Rattle.history.specs.declared.items.Item.{Item}
use Rattle.history.specs.Coming.{IsProgress, HasNoneLeft}
use Rattle.history.specs.SpaceLines.{AreSpaceLines}
use Rattle.history.specs.Histories.{items_of, journal_of, is_call, read_as, op_asked, answer_of, space_after}
use Rattle.history.proofs.Advances.{journal_within, left_within, left_fewer, lines_within, progress_more, progress_within}
use Rattle.history.proofs.Calls.{reads_space, IsAnswer, op_asks}
use Rattle.history.proofs.Lists.{at_place}
use Rattle.history.proofs.Numbers.{own_place}
use Rattle.history.proofs.Serial.{right_is_answer}
use Rattle.output.proofs.SpaceSteps.{space_more, objects_more}
use Rattle.output.specs.Output.{item_text}
use Rattle.output.specs.declared.answers.Answer.{Answer}
use Rattle.output.specs.declared.answers.Answer.TheVariants as answers
use Rattle.output.specs.declared.judging.Walk.{Walk}
use Rattle.output.specs.Judgements.{items_text}
use Rattle.output.specs.Internal.Judging.{TheOneComes, HasRead, IsTextWalked}
use Rattle.output.specs.Internal.Printed.{content_of_answer}
use Rattle.output.proofs.AnsweredTexts.{IsItemOf, asked, item_answer}
use Rattle.output.proofs.Judged.{Stood, good_item}

-- what the walk has shown
pub stood : (trace : Trace) (text : List ℕ) (walk : Walk) (walked : IsTextWalked trace text walk) → Stood trace text walked.items walk.given
stood trace text walk walked = record { good = walked.good; read = walked.read; forced = walked.forced }

-- before the first item
pub walked_none : (trace : Trace) (text : List ℕ) (walk : Walk) → IsValidConfig trace.config → AreSpaceLines trace.lines → IsProgress trace.lines [] walk.progress
    → walk.space ≡ record { config = trace.config; space = opening trace.config } → HasRead text [] walk.given
    → walk.given.line + length walk.given.rest.now < 2 ^ 64 - 1 → IsTextWalked trace text walk
unfolding journal_of opening
walked_none trace text walk valid kept reached space read room = record {
  valid = valid;
  kept = kept;
  items = [];
  good = λ place item below found. absurd (omega arith);
  progress = reached;
  opened = ap (λ v. v.config) space;
  space = ap (λ v. v.space) space ∙ sym (after-nil trace.config);
  objects = let same : walk.space.space.objects ≡ length trace.config.files = ap (λ v. v.space.objects) space in omega arith;
  read = read;
  room = room;
  forced = λ others right is agree. (others, refl);
}

-- there is room for one object more, and for one version more
pub walked_room : (trace : Trace) (text : List ℕ) (walk : Walk) (walked : IsTextWalked trace text walk)
    → (walk.space.space.objects < 2 ^ 32 - 1) × (walk.progress.version < 2 ^ 32)
walked_room trace text walk walked =
    let entries : length (journal_of walked.items) ≤ length walked.items = journal_within walked.items in
    let few : length walked.items ≤ length trace.lines = progress_within trace.lines walked.items _ walked.progress in
    let most = walked.kept.few in
    let files = walked.valid.most_files in (
      omega (arith, walked.objects, walked.progress.version, entries, few, most, files),
      omega (arith, walked.progress.version, entries, few, most),
    )

-- the caller of a line that comes is counted, and its count has room
pub counts_room : (trace : Trace) (text : List ℕ) (walk : Walk) (walked : IsTextWalked trace text walk)
    → (line : TraceLine) (caller : ℕ) → TheOneComes trace.lines walked.items walk.given.rest.now line caller
    → (caller < length walk.progress.answered) × (get_or walk.progress.answered caller 0 < 2 ^ 32)
counts_room trace text walk walked line caller comes =
    let within : caller < length walk.progress.answered = left_within trace.lines walked.items _ caller line walked.progress comes.next in (
      within,
      omega (
        arith,
        walked.progress.answered caller within,
        left_fewer trace.lines walked.items caller line comes.next,
        lines_within trace.lines caller,
        walked.kept.few,
      ),
    )

pub shown_call : (areas : List Record) (answer : Answer) → is_call (content_of_answer areas answer) ≡ is_call (content_of_answer [] answer)
shown_call areas (answers.Called call reply) = refl
shown_call areas (answers.Fault page access verdict) = refl
shown_call areas answers.List = refl

-- the item of an answer
abbrev pub item_with : ℕ → ℕ → List Record → Answer → Item
item_with caller version areas answer = record { caller = caller; version = version; content = content_of_answer areas answer }

-- what a walk did with a line that comes
pub record Ran (trace : Trace) (walk : Walk) (line : TraceLine) (caller version : ℕ) (areas : List Record) (answer : Answer) : Type 0 where
  pub made : content_of_answer areas answer ≡ answer_of walk.space.config walk.space.space line.op
  pub counted : version ≡ walk.progress.version + cond (is_call (content_of_answer areas answer)) 1 0
  pub order : is_call (content_of_answer areas answer) ≡ false → walk.progress.lowest ≤ caller

-- that is the item of the line
pub ran_item : (trace : Trace) (text : List ℕ) (walk : Walk) (walked : IsTextWalked trace text walk)
    → (line : TraceLine) (caller version : ℕ) (areas : List Record) (answer : Answer)
    → TheOneComes trace.lines walked.items walk.given.rest.now line caller → Ran trace walk line caller version areas answer
    → IsItemOf trace.config trace.lines walked.items line (item_with caller version areas answer)
ran_item trace text walk walked line caller version areas answer comes ran =
    let at = own_place trace.lines caller (length (items_of walked.items caller)) line comes.next in
    let line_value : IsLineValue line = at_place IsLineValue trace.lines at.0 line walked.kept.values at.1 in
    record {
      next = comes.next;
      told = comes.told;
      asks = op_asks line.op line_value.op;
      answer = ran.made ∙ ap (λ (c : Config). answer_of c walk.space.space line.op) walked.opened
          ∙ ap (λ (s : AddressSpace). answer_of trace.config s line.op) walked.space;
      version = ran.counted ∙ ap (λ (n : ℕ). n + cond (is_call (content_of_answer areas answer)) 1 0) walked.progress.version;
      order = λ read. omega (arith, walked.progress.lowest, ran.order read);
    }

-- what changed in a walk behind an item
pub record Passed (old new : Walk) (line : TraceLine) (caller version : ℕ) (called : Bool) : Type 0 where
  pub answered : new.progress.answered ≡ set old.progress.answered caller (get_or old.progress.answered caller 0 + 1)
  pub lines : new.progress.lines ≡ old.progress.lines
  pub counted : new.progress.version ≡ version
  pub lowest : new.progress.lowest ≡ cond called 0 caller
  pub space : new.space.space ≡ space_after old.space.config old.space.space line.op
  pub config : new.space.config ≡ old.space.config
  pub objects : new.space.space.objects ≤ old.space.space.objects + 1
  pub room : new.given.line + length new.given.rest.now < 2 ^ 64 - 1
  pub later : old.given.line < new.given.line

-- after an item
pub walked_more : (trace : Trace) (text : List ℕ) (old new : Walk) (walked : IsTextWalked trace text old)
    → (HasNoneLeft trace.lines walked.items → ⊥) → (old.given.rest.now ≡ [] → ⊥)
    → (line : TraceLine) (caller version : ℕ) (areas : List Record) (answer : Answer)
    → TheOneComes trace.lines walked.items old.given.rest.now line caller → Ran trace old line caller version areas answer
    → Passed old new line caller version (is_call (content_of_answer areas answer))
    → HasRead text (items_text trace walked.items ++ item_text trace.config.files line (item_with caller version areas answer)) new.given
    → IsTextWalked trace text new
walked_more trace text old new walked left some line caller version areas answer comes ran passed read =
    let config : Config = trace.config in
    let items : List Item = walked.items in
    let item : Item = item_with caller version areas answer in
    let here : AddressSpace = after config (journal_of items) in
    let is : IsItemOf config trace.lines items line item = ran_item trace text old walked line caller version areas answer comes ran in
    let now : Stood trace text (items ++ item ∷ []) new.given =
    good_item trace text items old.given new.given line item (stood trace text old walked) left some walked.kept.numbered is comes.tells passed.later read in
    let right : IsAnswer config (journal_of items) item.content = item_answer config trace.lines items line item is in
    let asks : read_as line.op ≡ op_asked item.content = asked config here line.op is.asks ∙ ap op_asked (sym is.answer) in
    let moved : new.space.space ≡ space_after config here (op_asked item.content) =
    passed.space ∙ ap (λ (c : Config). space_after c old.space.space line.op) walked.opened
    ∙ ap (λ (s : AddressSpace). space_after config s line.op) walked.space ∙ sym (reads_space config here line.op)
    ∙ ap (space_after config here) asks in
    record {
      valid = walked.valid;
      kept = walked.kept;
      items = items ++ item ∷ [];
      good = now.good;
      progress = progress_more trace.lines items item line _ _ walked.progress comes.next passed.lines passed.answered
          (passed.counted ∙ ran.counted) passed.lowest;
      opened = passed.config ∙ walked.opened;
      space = moved ∙ sym (space_more config items item right);
      objects = subst (λ (n : ℕ). new.space.space.objects ≤ length config.files + n) (sym (passed.counted ∙ ran.counted))
          (objects_more config item.content old.space.space new.space.space (length config.files) old.progress.version walked.objects passed.objects
          (right_is_answer config (journal_of items) old.space.space item.content (sym walked.space) right)
          (moved ∙ ap (λ (s : AddressSpace). space_after config s (op_asked item.content)) (sym walked.space)));
      read = now.read;
      room = passed.room;
      forced = now.forced;
    }
