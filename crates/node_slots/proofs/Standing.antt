-- For `NodeTable::open`, `NodeTable::scan` and others: the rule of a table after one seat made a step: what each step has to show.
use Rattle.std.proofs.Common.{ℕ, ◌≡◌, ◌≢◌, ◌<◌, ◌≤◌, ◌∙◌, refl, sym, ap, subst, List, length, get_or, set, arith}
use mathlib.Core.Option.{some}
use lib.ListN.{get_elem?}
use Rattle.std.proofs.lemmas.List.{length-set, set-get_or, get_or-set_other}
use Rattle.maple_node.specs.Roots.{unpacked_root}
use Rattle.atomic_table.specs.Table.{State, stepped, keeps}
use Rattle.node_slots.specs.declared.view.Size.{Size}
use Rattle.node_slots.specs.declared.view.Known.{Known}
use Rattle.node_slots.specs.declared.view.NodeView.{NodeView}
use Rattle.node_slots.specs.Places.{root_place, pin_place, word_place}
use Rattle.node_slots.specs.Views.{node_view_at, spent_node_view}
use Rattle.node_slots.specs.Rule.{FitsReader, NodeSeatFits, AreApart, Stands, HasWords, ShowsKnown, ShowsGrace}
use Rattle.node_slots.proofs.Elements.{found_there, each_else}

-- the seat of a number
pub record IsSeat (size : Size) (state : State (Unit {0}) NodeView) (known : Known) (seat : ℕ) (view : NodeView) : Type 0 where
  pub is : node_view_at state.views seat ≡ view
  pub within : seat < length state.views
  pub fits : NodeSeatFits size state.words known seat view

pub seat_found : (size : Size) (state : State (Unit {0}) NodeView) (known : Known) (shows : ShowsKnown size state known) (seat : ℕ) (view : NodeView)
    → get_elem? state.views seat ≡ some view → IsSeat size state known seat view
seat_found size state known shows seat view at =
    let there = found_there state.views seat view spent_node_view at in
    record {
      is = there.0;
      within = there.1;
      fits = subst (NodeSeatFits size state.words known seat) there.0 (shows.seats seat);
    }

-- each reader has at most one seat after a step that keeps the seat's reader
pub apart_same : (views : List NodeView) (seat : ℕ) (old new : NodeView) → node_view_at views seat ≡ old → seat < length views
    → new.kind ≡ old.kind → new.reader ≡ old.reader → AreApart views → AreApart (set views seat new)
apart_same views seat old new is within kind reader apart =
    let same : (k : ℕ) → ((node_view_at (set views seat new) k).kind ≡ (node_view_at views k).kind)
    × ((node_view_at (set views seat new) k).reader ≡ (node_view_at views k).reader) =
    each_else (λ k (v : NodeView). (v.kind ≡ (node_view_at views k).kind) × (v.reader ≡ (node_view_at views k).reader)) views seat new spent_node_view within
    (λ k _. (refl, refl))
    (kind ∙ ap (λ (v : NodeView). v.kind) (sym is), reader ∙ ap (λ (v : NodeView). v.reader) (sym is)) in
    λ i j first second both.
    apart i j (sym (same i).0 ∙ first) (sym (same j).0 ∙ second) (sym (same i).1 ∙ both ∙ (same j).1)

-- a seat made a step
pub steps : (size : Size) (state : State (Unit {0}) NodeView) (known next : Known) (shows : ShowsKnown size state known) (seat word n : ℕ)
    (carried : List (ℕ × Unit {0})) (old new : NodeView)
    → IsSeat size state known seat old
    → Stands size next
    → HasWords size (set state.words word n) next
    → ((other : ℕ) → other ≢ seat → NodeSeatFits size (set state.words word n) next other (node_view_at state.views other))
    → NodeSeatFits size (set state.words word n) next seat new
    → new.kind ≡ old.kind → new.reader ≡ old.reader
    → ShowsGrace size (stepped state word n seat carried new keeps)
steps size state known next shows seat word n carried old new at stands words others fits kind reader = record {
  known = next;
  shows = record {
    stands = stands;
    words = words;
    seats = each_else (NodeSeatFits size (set state.words word n) next) state.views seat new spent_node_view at.within others fits;
    apart = apart_same state.views seat old new at.is at.within kind reader shows.apart;
  };
}

-- a seat loaded a word
pub loads_word : (size : Size) (state : State (Unit {0}) NodeView) (known : Known) (shows : ShowsKnown size state known) (seat word : ℕ)
    (carried : List (ℕ × Unit {0})) (old new : NodeView)
    → IsSeat size state known seat old → NodeSeatFits size state.words known seat new → new.kind ≡ old.kind → new.reader ≡ old.reader
    → ShowsGrace size (stepped state word (get_or state.words word 0) seat carried new keeps)
loads_word size state known shows seat word carried old new at fits kind reader =
    let same : state.words ≡ set state.words word (get_or state.words word 0) = sym (set-get_or state.words word 0) in
    steps size state known known shows seat word (get_or state.words word 0) carried old new at shows.stands
    (subst (λ (l : List ℕ). HasWords size l known) same shows.words)
    (λ other apart. subst (λ (l : List ℕ). NodeSeatFits size l known other (node_view_at state.views other)) same (shows.seats other))
    (subst (λ (l : List ℕ). NodeSeatFits size l known seat new) same fits) kind reader

-- the words after a pin changed
pub words_pin : (size : Size) (words : List ℕ) (known : Known) (reader n : ℕ) → HasWords size words known → reader < known.made
    → known.made ≤ size.readers
    → HasWords size (set words (pin_place reader) n) known
words_pin size words known reader n has made few = record {
  sized = length-set words (pin_place reader) n ∙ has.sized;
  root = ap unpacked_root (get_or-set_other words (pin_place reader) root_place n 0 (λ e. omega arith)) ∙ has.root;
  new_pins = λ other new inside. get_or-set_other words (pin_place reader) (pin_place other) n 0 (λ e. omega arith) ∙ has.new_pins other new inside;
  rows = λ row place there inside. get_or-set_other words (pin_place reader) (word_place size.readers row place) n 0 (λ e. omega arith)
      ∙ has.rows row place there inside;
}

-- a reader's pin stays where another word changed
pub pin_else : (size : Size) (words : List ℕ) (known : Known) (view : NodeView) (word n : ℕ) → pin_place view.reader ≢ word
    → FitsReader size words known view
    → FitsReader size (set words word n) known view
pin_else size words known view word n apart fits = record {
  size_is = fits.size_is;
  made = fits.made;
  pin = get_or-set_other words word (pin_place view.reader) n 0 apart ∙ fits.pin;
  keeps = fits.keeps;
}
