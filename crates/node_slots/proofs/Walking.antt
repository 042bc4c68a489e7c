-- For `NodeTable::open`, `NodeTable::root`, `NodeTable::word` and `NodeTable::close`: the steps of readers keep the rule, and what they tell.
use Rattle.std.proofs.Common.{ℕ, ◌≡◌, ◌≢◌, ◌<◌, ◌≤◌, ◌+◌, ◌%◌, ◌^◌, ◌∙◌, true, refl, sym, ap, subst, List, length, get_or, set, Some, arith}
use mathlib.Core.Option.{some, none}
use lib.ListN.{get_elem?}
use Rattle.std.proofs.lemmas.List.{get_or-set_same}
use Rattle.grace_core.specs.Core as grace
use Rattle.grace_core.specs.Core.{has_row}
use Rattle.grace_core.specs.Facts.{Keeps}
use Rattle.grace_core.specs.Steps.{turned}
use Rattle.grace_core.proofs.Moves.{loads}
use Rattle.atomic_table.specs.Table.{State, Me, step, stepped, Allows, keeps}
use Rattle.node_slots.specs.declared.view.Size.{Size}
use Rattle.node_slots.specs.declared.view.NodeSeatKind.TheVariants.{Reads}
use Rattle.node_slots.specs.declared.view.ShownTree.{ShownTree}
use Rattle.node_slots.specs.declared.view.Known.{Known}
use Rattle.node_slots.specs.declared.view.NodeView.{NodeView}
use Rattle.node_slots.specs.Trees.{grace_tree, IsShown}
use Rattle.node_slots.specs.Places.{root_place, pin_place, word_place}
use Rattle.node_slots.specs.Views.{node_view_at, open_at, root_at, word_at, close_at}
use Rattle.node_slots.specs.Rule.{FitsReader, NodeSeatFits, ShowsKnown, ShowsGrace}
use Rattle.node_slots.specs.Plays.{opened, loaded, word_read, closed}
use Rattle.node_slots.proofs.Standing.{IsSeat, seat_found, steps, loads_word, words_pin, pin_else}

-- a seat that reads fits where its reader does
pub reader_fits : (size : Size) (words : List ℕ) (known : Known) (seat : ℕ) (view : NodeView) → view.kind ≡ Reads → FitsReader size words known view
    → NodeSeatFits size words known seat view
reader_fits size words known seat view reads fits = record {
  reader = λ _. fits;
  writer = λ writes. let e = sym reads ∙ writes in absurd (cc);
}

-- another seat fits after a reader's pin changed
others_pin : (size : Size) (state : State (Unit {0}) NodeView) (known : Known) (shows : ShowsKnown size state known) (seat n : ℕ) (view : NodeView)
    → IsSeat size state known seat view → view.kind ≡ Reads → (other : ℕ) → other ≢ seat
    → NodeSeatFits size (set state.words (pin_place view.reader) n) known other (node_view_at state.views other)
others_pin size state known shows seat n view at reads other differ =
    let fits = shows.seats other in
    let there : NodeView = node_view_at state.views other in
    record {
      reader = λ also. pin_else size state.words known there (pin_place view.reader) n
          (λ e. let same : there.reader ≡ view.reader = omega (arith, e) in
          differ (shows.apart other seat also (ap (λ (v : NodeView). v.kind) at.is ∙ reads) (same ∙ ap (λ (v : NodeView). v.reader) (sym at.is))))
          (fits.reader also);
      writer = fits.writer;
    }

-- a reader turns its pin
turns : (size : Size) (state : State (Unit {0}) NodeView) (known : Known) (shows : ShowsKnown size state known) (seat : ℕ)
    (me : Me (Unit {0}) NodeView) (new : NodeView)
    → get_elem? state.views seat ≡ some me.0 → me.0.kind ≡ Reads
    → new.kind ≡ me.0.kind → new.reader ≡ me.0.reader → new.size ≡ me.0.size → new.pin ≡ turned me.0.pin
    → ((shown : ShownTree) → new.snapshot ≡ Some shown → (me.0.snapshot ≡ Some shown) × (me.0.pin % 2 ≡ 0))
    → ShowsGrace size (stepped state (pin_place me.0.reader) ((get_or state.words (pin_place me.0.reader) 0 + 1) % 2 ^ 64) seat me.1 new keeps)
turns size state known shows seat me new found reads kind reader sized pin empty =
    let at = seat_found size state known shows seat me.0 found in
    let fits = at.fits.reader reads in
    let r : ℕ = me.0.reader in
    let n : ℕ = (get_or state.words (pin_place r) 0 + 1) % 2 ^ 64 in
    let made : r < known.made = fits.made in
    let few : known.made ≤ size.readers = shows.stands.made in
    let there : pin_place r < length state.words = omega (arith, made, few, shows.words.sized) in
    let now : n ≡ turned me.0.pin = ap turned fits.pin in
    steps size state known known shows seat (pin_place r) n me.1 me.0 new at shows.stands
    (words_pin size state.words known r n shows.words made few)
    (others_pin size state known shows seat n me.0 at reads)
    (reader_fits size (set state.words (pin_place r) n) known seat new (kind ∙ reads) (record {
      size_is = sized ∙ fits.size_is;
      made = subst (λ k. k < known.made) (sym reader) made;
      pin = ap (λ k. get_or (set state.words (pin_place r) n) (pin_place k) 0) reader ∙ get_or-set_same state.words (pin_place r) n 0 there ∙ now
          ∙ sym pin;
      keeps = λ shown is. let was = empty shown is in let odd = (fits.keeps shown was.0).odd in absurd (omega (arith, odd, was.1));
    })) kind reader

-- open
pub open_allows : (size : Size) (slots seat reader : ℕ) (me : Me (Unit {0}) NodeView) → me.0.kind ≡ Reads → me.0.reader ≡ reader → me.0.pin % 2 ≡ 0
    → Allows (ShowsGrace size) slots seat me (pin_place reader) (λ n. (n + 1) % 2 ^ 64) (opened (step slots (pin_place reader) 1 0 none) me)
open_allows size slots seat reader me reads is even =
    subst (λ r. Allows (ShowsGrace size) slots seat me (pin_place r) (λ n. (n + 1) % 2 ^ 64) (opened (step slots (pin_place r) 1 0 none) me)) is
    (λ state shows homes found fits. (
      open_at me.0,
      keeps,
      tt,
      turns size state shows.known shows.shows seat me (open_at me.0) found reads refl refl refl refl (λ shown some. (some, even)),
      refl,
    ))

-- close
pub close_allows : (size : Size) (slots seat reader : ℕ) (me : Me (Unit {0}) NodeView) → me.0.kind ≡ Reads → me.0.reader ≡ reader
    → Allows (ShowsGrace size) slots seat me (pin_place reader) (λ n. (n + 1) % 2 ^ 64) (closed (step slots (pin_place reader) 1 0 none) me)
close_allows size slots seat reader me reads is =
    subst (λ r. Allows (ShowsGrace size) slots seat me (pin_place r) (λ n. (n + 1) % 2 ^ 64) (closed (step slots (pin_place r) 1 0 none) me)) is
    (λ state shows homes found fits. (
      close_at me.0,
      keeps,
      tt,
      turns size state shows.known shows.shows seat me (close_at me.0) found reads refl refl refl refl (λ shown some. absurd (cc)),
      refl,
    ))

-- root
pub root_allows : (size : Size) (slots seat : ℕ) (me : Me (Unit {0}) NodeView) → me.0.kind ≡ Reads → me.0.pin % 2 ≡ 1
    → Allows (ShowsGrace size) slots seat me root_place (λ n. n) (loaded (step slots root_place 0 0 none) me)
root_allows size slots seat me reads odd state shows homes found fits =
    let known : Known = shows.known in
    let stands = shows.shows.stands in
    let at = seat_found size state known shows.shows seat me.0 found in
    let reader = at.fits.reader reads in
    let shown : ShownTree = record { root = known.root; words = known.writer_state.tree.words } in
    let new : NodeView = root_at me.0 shown in
    let same : known.writer_state.tree ≡ grace_tree shown = stands.tree in
    let kept : Keeps known.writer_state me.0.reader me.0.pin (grace_tree shown) =
    subst (Keeps known.writer_state me.0.reader me.0.pin) same
    (loads known.writer_state me.0.reader me.0.pin stands.writer_facts (stands.exist me.0.reader (omega (arith, reader.made, stands.made))) odd) in (
      new,
      keeps,
      tt,
      loads_word size state known shows.shows seat root_place me.1 me.0 new at
          (reader_fits size state.words known seat new reads (record {
            size_is = reader.size_is;
            made = reader.made;
            pin = reader.pin;
            keeps = λ other is. subst (λ (s : ShownTree). Keeps known.writer_state me.0.reader me.0.pin (grace_tree s)) (let e : shown ≡ other = cc in e) kept;
          })) refl refl,
      (
        shown,
        sym shows.shows.words.root,
        subst (λ (s : Size). IsShown s.slots shown) (sym reader.size_is) stands.shown,
        (λ row here. subst (λ (s : Size). row < s.rows) (sym reader.size_is)
            (omega (arith, stands.rows, stands.writer_facts.present.exist row (subst (λ (t : grace.GraceTreeView). has_row t row ≡ true) (sym same) here)))),
        refl,
      ),
    )

-- word
pub word_allows : (size : Size) (slots seat word : ℕ) (me : Me (Unit {0}) NodeView) → me.0.kind ≡ Reads
    → Allows (ShowsGrace size) slots seat me word (λ n. n) (word_read (step slots word 0 0 none) me)
word_allows size slots seat word me reads state shows homes found fits =
    let known : Known = shows.known in
    let stands = shows.shows.stands in
    let at = seat_found size state known shows.shows seat me.0 found in
    let reader = at.fits.reader reads in (
      word_at me.0,
      keeps,
      tt,
      loads_word size state known shows.shows seat word me.1 me.0 (word_at me.0) at
          (reader_fits size state.words known seat (word_at me.0) reads (record {
            size_is = reader.size_is;
            made = reader.made;
            pin = reader.pin;
            keeps = reader.keeps;
          })) refl refl,
      (
        refl,
        λ shown row place some here inside is.
            let kept = reader.keeps shown some in
            let there : row < size.rows = omega (arith, stands.rows, kept.words.exist row here) in
            ap (λ w. get_or state.words w 0) (is ∙ ap (λ (s : Size). word_place s.readers row place) reader.size_is)
            ∙ shows.shows.words.rows row place there inside
            ∙ ap (λ (l : List ℕ). get_or l place 0) (kept.words.same row here),
      ),
    )
