-- For `NodeTable::store_word`, `NodeTable::publish_root` and `NodeTable::scan_pin`: the writer's steps keep the rule.
use Rattle.std.proofs.Common.{ℕ, ◌≡◌, ◌<◌, ◌≤◌, ◌+◌, ◌*◌, ◌/◌, ◌%◌, ◌^◌, ◌∙◌, true, refl, sym, ap, subst, List, [], length, get_or, set, arith, inl, inr}
use mathlib.Core.Option.{some, none}
use lib.ListN.{get_elem?}
use Rattle.std.proofs.lemmas.Bool.{lt-ltb}
use Rattle.std.proofs.lemmas.Bool.Decides.{eqb_tells}
use Rattle.std.proofs.lemmas.List.{length-set, set-get_or, get_or-set_same, get_or-set_other}
use Rattle.grace_core.specs.Core.{times, row_at, is_free_row}
use Rattle.grace_core.specs.Steps.{filled}
use Rattle.grace_core.proofs.Moves.{fill_writer_facts, fill_keeps, publish_writer_facts, publish_keeps, scan_writer_facts, scan_keeps, exists_looked}
use Rattle.maple_node.specs.declared.root.Root.{Root}
use Rattle.maple_node.specs.Roots.{packed_root, unpacked_root, FitsRoot}
use Rattle.atomic_table.specs.Table.{State, Me, step, stepped, Allows, keeps}
use Rattle.node_slots.specs.declared.view.Size.{Size}
use Rattle.node_slots.specs.declared.view.NodeSeatKind.TheVariants.{Writes}
use Rattle.node_slots.specs.declared.view.Known.{Known}
use Rattle.node_slots.specs.declared.view.NodeView.{NodeView}
use Rattle.node_slots.specs.Trees.{shown_rows, grace_tree, IsShown}
use Rattle.node_slots.specs.Places.{root_place, pin_place, word_place}
use Rattle.node_slots.specs.Views.{node_view_at, node_store_at, named_tree, publish_at, scan_at}
use Rattle.node_slots.specs.Rule.{FitsReader, Stands, HasWords, ShowsKnown, ShowsGrace}
use Rattle.node_slots.specs.Plays.{RowsExist, fill_tells, shown_now, pin_found}
use Rattle.node_slots.proofs.Standing.{IsSeat, seat_found, steps}

-- the writer, with the rule as it knows the table
record IsWriting (size : Size) (state : State (Unit {0}) NodeView) (seat : ℕ) (view : NodeView) : Type 0 where
  pub shows : ShowsKnown size state view.known
  pub at : IsSeat size state view.known seat view
  pub first : seat ≡ 0
  pub size_is : view.size ≡ size

writing : (size : Size) (state : State (Unit {0}) NodeView) (shows : ShowsGrace size state) (seat : ℕ) (view : NodeView)
    → get_elem? state.views seat ≡ some view → view.kind ≡ Writes → IsWriting size state seat view
writing size state shows seat view found writes =
    let at = seat_found size state shows.known shows.shows seat view found in
    let is = at.fits.writer writes in
    let known : ShowsKnown size state view.known = subst (ShowsKnown size state) (sym is.knows) shows.shows in
    record {
      shows = known;
      at = seat_found size state view.known known seat view found;
      first = is.first;
      size_is = is.size_is;
    }

-- a step of the writer
writer_steps : (size : Size) (state : State (Unit {0}) NodeView) (seat word n : ℕ) (carried : List (ℕ × Unit {0})) (old new : NodeView)
    → IsWriting size state seat old → old.kind ≡ Writes → new.kind ≡ old.kind → new.reader ≡ old.reader → new.size ≡ old.size
    → Stands size new.known → HasWords size (set state.words word n) new.known
    → ((v : NodeView) → FitsReader size state.words old.known v → FitsReader size (set state.words word n) new.known v)
    → ShowsGrace size (stepped state word n seat carried new keeps)
writer_steps size state seat word n carried old new is writes kind reader sized stands words readers =
    steps size state old.known new.known is.shows seat word n carried old new is.at stands words
    (λ other apart. record {
      reader = λ reads. readers (node_view_at state.views other) ((is.shows.seats other).reader reads);
      writer = λ also. absurd (apart (((is.shows.seats other).writer also).first ∙ sym is.first));
    })
    (record {
      reader = λ reads. let e = sym writes ∙ sym kind ∙ reads in absurd (cc);
      writer = λ _. record { size_is = sized ∙ is.size_is; first = is.first; knows = refl };
    }) kind reader

-- the words after a word of a row changed
words_stored : (size : Size) (words : List ℕ) (known : Known) (row place word : ℕ) → HasWords size words known → known.made ≤ size.readers
    → length known.writer_state.words ≡ size.rows → length (row_at known.writer_state.words row) ≡ 32 → row < size.rows → place < 32
    → HasWords size (set words (word_place size.readers row place) word) (record known { writer_state = filled known.writer_state row place word })
words_stored size words known row place word has few rows wide there inside =
    let at : ℕ = word_place size.readers row place in
    let old : List ℕ = row_at known.writer_state.words row in
    let changed : List (List ℕ) = set known.writer_state.words row (set old place word) in
    record {
      sized = length-set words at word ∙ has.sized;
      root = ap unpacked_root (get_or-set_other words at root_place word 0 (λ e. omega arith)) ∙ has.root;
      new_pins = λ reader new within. get_or-set_other words at (pin_place reader) word 0 (λ e. omega arith) ∙ has.new_pins reader new within;
      rows = λ row' place' there' inside'. elim (eqb_tells row' row) [
        | inl same ↦
            let now : get_or changed row' [] ≡ set old place word =
            ap (λ k. get_or changed k []) same.1 ∙ get_or-set_same known.writer_state.words row (set old place word) [] (omega (arith, there, rows)) in
            elim (eqb_tells place' place) [
              | inl here ↦
                  ap (λ w. get_or (set words at word) w 0) (ap (λ k. word_place size.readers k place') same.1
                  ∙ ap (word_place size.readers row) here.1)
                  ∙ get_or-set_same words at word 0 (omega (arith, has.sized, there, inside))
                  ∙ sym (ap (λ (l : List ℕ). get_or l place' 0) now ∙ ap (λ k. get_or (set old place word) k 0) here.1
                  ∙ get_or-set_same old place word 0 (omega (arith, inside, wide)))
              | inr differ ↦
                  get_or-set_other words at (word_place size.readers row' place') word 0 (λ e. differ.1 (let s = same.1 in omega arith))
                  ∙ has.rows row' place' there' inside'
                  ∙ ap (λ k. get_or (row_at known.writer_state.words k) place' 0) same.1
                  ∙ sym (ap (λ (l : List ℕ). get_or l place' 0) now ∙ get_or-set_other old place place' word 0 differ.1)
            ]
        | inr differ ↦
            get_or-set_other words at (word_place size.readers row' place') word 0 (λ e. differ.1 (omega arith))
            ∙ has.rows row' place' there' inside'
            ∙ sym (ap (λ (l : List ℕ). get_or l place' 0) (get_or-set_other known.writer_state.words row row' (set old place word) [] differ.1))
      ];
    }

-- a word of a free row is stored
pub store_allows : (size : Size) (slots seat row place word : ℕ) (me : Me (Unit {0}) NodeView) → me.0.kind ≡ Writes → row < size.rows → place < 32
    → is_free_row me.0.known.writer_state row ≡ true
    → Allows (ShowsGrace size) slots seat me (word_place size.readers row place) (λ n. word)
    (λ n. fill_tells (step slots (word_place size.readers row place) word 0 none) me word)
store_allows size slots seat row place word me writes there inside free state shows homes found fits =
    let is = writing size state shows seat me.0 found writes in
    let known : Known = me.0.known in
    let stands = is.shows.stands in
    let at : ℕ = word_place size.readers row place in
    let changed : List ℕ = set (row_at known.writer_state.words row) place word in
    let new : NodeView = node_store_at me.0 row place word in (
      new,
      keeps,
      tt,
      writer_steps size state seat at word me.1 me.0 new is writes refl refl
          refl (record {
            writer_facts = fill_writer_facts known.writer_state row place word stands.writer_facts free;
            tree = stands.tree;
            shown = stands.shown;
            width = stands.width;
            rows = length-set known.writer_state.words row changed ∙ stands.rows;
            exist = stands.exist;
            made = stands.made;
          })
          (words_stored size state.words known row place word is.shows.words stands.made stands.rows
          (stands.writer_facts.wide row (omega (arith, there, stands.rows)) ∙ stands.width) there inside)
          (λ v fit. record {
            size_is = fit.size_is;
            made = fit.made;
            pin = get_or-set_other state.words at (pin_place v.reader) word 0 (λ e. let made = fit.made in let few = stands.made in omega arith)
                ∙ fit.pin;
            keeps = λ shown some. fill_keeps known.writer_state row place word v.reader v.pin (grace_tree shown) free (fit.keeps shown some);
          }),
      λ row' place' inside' same.
          let placed : word_place size.readers row place ≡ word_place size.readers row' place' =
          same ∙ ap (λ (s : Size). word_place s.readers row' place') is.size_is in
          let rows_are : row ≡ row' = omega arith in
          let places_are : place ≡ place' = omega arith in
          ap (λ k. (node_store_at me.0 k place word, me.1)) rows_are ∙ ap (λ k. (node_store_at me.0 row' k word, me.1)) places_are,
    )

-- a root word names its root
named : (root : Root) → FitsRoot root → unpacked_root (packed_root root) ≡ root
unfolding packed_root unpacked_root
named root fits =
    let t : ℕ = root.tree in
    let h : ℕ = root.height in
    let r : ℕ = root.row.0 in
    let row = fits.row in
    let height = fits.height in
    let word : ℕ = t * 2 ^ 24 + h * 2 ^ 20 + r in
    let tree_is : word / 2 ^ 24 ≡ t = omega arith in
    let height_is : word / 2 ^ 20 % 2 ^ 4 ≡ h = omega arith in
    let row_is : word % 2 ^ 20 ≡ r = omega arith in
    let told : ℕ → ℕ → ℕ → Root = λ tree height row. record { tree = tree; height = height; row = record { 0 = row } } in
    ap (λ n. told n (word / 2 ^ 20 % 2 ^ 4) (word % 2 ^ 20)) tree_is ∙ ap (λ n. told t n (word % 2 ^ 20)) height_is ∙ ap (told t h) row_is

-- a tree is published
pub publish_allows : (size : Size) (slots seat : ℕ) (root : Root) (me : Me (Unit {0}) NodeView) → me.0.kind ≡ Writes → me.0.size ≡ size
    → FitsRoot root
    → me.0.known.writer_state.tree.number < root.tree → IsShown me.0.size.slots (named_tree me.0.known root)
    → RowsExist me.0.size.rows (named_tree me.0.known root)
    → Allows (ShowsGrace size) slots seat me root_place (λ n. packed_root root)
    (λ n. shown_now (step slots root_place (packed_root root) 0 none) me (packed_root root))
publish_allows size slots seat root me writes same fits later shown exist state shows homes found bound =
    let is = writing size state shows seat me.0 found writes in
    let known : Known = me.0.known in
    let stands = is.shows.stands in
    let has = is.shows.words in
    let rows : List ℕ = shown_rows (named_tree known root) in
    let new : NodeView = publish_at me.0 root in
    let word : ℕ = packed_root root in (
      new,
      keeps,
      tt,
      writer_steps size state seat root_place word me.1 me.0 new is writes refl refl
          refl (record {
            writer_facts = publish_writer_facts known.writer_state root.tree rows stands.writer_facts later
                (λ row some. let within = exist row (lt-ltb 0 (times row rows) some) in
                omega (arith, within, stands.rows, ap (λ (s : Size). s.rows) same));
            tree = refl;
            shown = subst (λ (s : Size). IsShown s.slots (named_tree known root)) same shown;
            width = stands.width;
            rows = stands.rows;
            exist = stands.exist;
            made = stands.made;
          })
          (record {
            sized = length-set state.words root_place word ∙ has.sized;
            root = ap unpacked_root (get_or-set_same state.words root_place word 0 (omega (arith, has.sized))) ∙ named root fits;
            new_pins = λ reader fresh within. get_or-set_other state.words root_place (pin_place reader) word 0 (λ e. omega arith)
                ∙ has.new_pins reader fresh within;
            rows = λ row place there inside. get_or-set_other state.words root_place (word_place size.readers row place) word 0 (λ e. omega arith)
                ∙ has.rows row place there inside;
          })
          (λ v fit. record {
            size_is = fit.size_is;
            made = fit.made;
            pin = get_or-set_other state.words root_place (pin_place v.reader) word 0 (λ e. omega arith) ∙ fit.pin;
            keeps = λ s some. publish_keeps known.writer_state root.tree rows v.reader v.pin (grace_tree s) stands.writer_facts later (fit.keeps s some);
          }),
      λ root' fits' word_is.
          let roots : root ≡ root' = sym (named root fits) ∙ ap unpacked_root word_is ∙ named root' fits' in
          ap (λ (r : Root). (publish_at me.0 r, me.1)) roots,
    )

-- a pin is loaded
pub scan_allows : (size : Size) (slots seat reader : ℕ) (me : Me (Unit {0}) NodeView) → me.0.kind ≡ Writes → reader < size.readers
    → Allows (ShowsGrace size) slots seat me (pin_place reader) (λ n. n) (pin_found (step slots (pin_place reader) 0 0 none) me)
scan_allows size slots seat reader me writes within state shows homes found bound =
    let is = writing size state shows seat me.0 found writes in
    let known : Known = me.0.known in
    let stands = is.shows.stands in
    let n : ℕ = get_or state.words (pin_place reader) 0 in
    let new : NodeView = scan_at me.0 reader n in
    let words_are : state.words ≡ set state.words (pin_place reader) n = sym (set-get_or state.words (pin_place reader) 0) in
    let has = is.shows.words in (
      new,
      keeps,
      tt,
      writer_steps size state seat (pin_place reader) n me.1 me.0 new is writes refl refl
          refl (record {
            writer_facts = scan_writer_facts known.writer_state reader n stands.writer_facts;
            tree = stands.tree;
            shown = stands.shown;
            width = stands.width;
            rows = stands.rows;
            exist = λ other inside. exists_looked known.writer_state reader other n (stands.exist other inside);
            made = stands.made;
          })
          (subst (λ (l : List ℕ). HasWords size l new.known) words_are
          (record { sized = has.sized; root = has.root; new_pins = has.new_pins; rows = has.rows }))
          (λ v fit. subst (λ (l : List ℕ). FitsReader size l new.known v) words_are (record {
            size_is = fit.size_is;
            made = fit.made;
            pin = fit.pin;
            keeps = λ s some. scan_keeps known.writer_state reader n v.reader v.pin (grace_tree s)
                (λ same. ap (λ k. get_or state.words (pin_place k) 0) (sym same) ∙ fit.pin) (fit.keeps s some);
          })),
      λ reader' placed. let same : reader ≡ reader' = omega arith in ap (λ k. (scan_at me.0 k n, me.1)) same,
    )

-- the same, at the size that the table's handle knows
pub store_owes : (size key : Size) (slots seat row place word : ℕ) (me : Me (Unit {0}) NodeView) → size ≡ key → me.0.kind ≡ Writes → row < size.rows
    → place < 32
    → is_free_row me.0.known.writer_state row ≡ true
    → Allows (ShowsGrace key) slots seat me (word_place size.readers row place) (λ n. word)
    (λ n. fill_tells (step slots (word_place size.readers row place) word 0 none) me word)
store_owes size key slots seat row place word me same writes there inside free =
    subst (λ (k : Size). Allows (ShowsGrace k) slots seat me (word_place size.readers row place) (λ n. word)
    (λ n. fill_tells (step slots (word_place size.readers row place) word 0 none) me word)) same
    (store_allows size slots seat row place word me writes there inside free)

-- a root word is stored
pub publish_owes : (size : Size) (slots seat word : ℕ) (root : Root) (me : Me (Unit {0}) NodeView) → word ≡ packed_root root → me.0.kind ≡ Writes
    → me.0.size ≡ size → FitsRoot root
    → me.0.known.writer_state.tree.number < root.tree → IsShown me.0.size.slots (named_tree me.0.known root)
    → RowsExist me.0.size.rows (named_tree me.0.known root)
    → Allows (ShowsGrace size) slots seat me root_place (λ n. word) (λ n. shown_now (step slots root_place word 0 none) me word)
publish_owes size slots seat word root me is writes same fits later shown exist =
    subst (λ w. Allows (ShowsGrace size) slots seat me root_place (λ n. w) (λ n. shown_now (step slots root_place w 0 none) me w)) (sym is)
    (publish_allows size slots seat root me writes same fits later shown exist)
