-- For `open` and `open_seat`: a new table keeps its rule, and its writer what it knows.
use Rattle.std.proofs.Common.{ℕ, zero, suc, ◌≡◌, ◌<◌, ◌≤◌, ◌-◌, ◌∙◌, true, false, refl, sym, ap, subst, nat_lt, List, [], ◌∷◌, length, get_or, set, replicate, arith, inl, inr}
use Rattle.std.proofs.lemmas.Bool.{cases_lt, lt-ltb, le-ltb}
use Rattle.std.proofs.lemmas.List.{length-replicate, get_or-replicate, length-set, get_or-set_same, get_or-set_other, get_or_past}
use Rattle.mm_types.specs.declared.slot.Row.{Row}
use Rattle.grace_core.specs.declared.clearing.Clearing.{Clearing}
use Rattle.grace_core.specs.Core.{times, has_row, since_at, clearing_at, no_clearing}
use Rattle.grace_core.specs.Steps.{new_clearing, cleared_up_to}
use Rattle.grace_core.specs.Facts.{WriterFacts}
use Rattle.grace_core.proofs.Moves.{free_fact, free_from}
use Rattle.maple_node.specs.Roots.{packed_root, unpacked_root}
use Rattle.maple_node.specs.Levels.{at_of}
use Rattle.maple_node.specs.Trees.{IsFirst}
use Rattle.maple_node.proofs.Trees.{first-rows}
use Rattle.atomic_table.specs.Table.{Me, opening}
use Rattle.node_slots.specs.declared.view.Size.{Size}
use Rattle.node_slots.specs.declared.view.NodeSeatKind.TheVariants.{Reads}
use Rattle.node_slots.specs.declared.view.NodeView.{NodeView}
use Rattle.node_slots.specs.declared.left.Left.{Left}
use Rattle.node_slots.specs.Trees.{shown_rows, grace_tree, IsShown, first_root, empty_row, first_tree}
use Rattle.node_slots.specs.Places.{pin_place, word_place, word_count}
use Rattle.node_slots.specs.Views.{first_writer_state, first_known, opened_node_view, node_view_at}
use Rattle.node_slots.specs.Rule.{NodeSeatFits, ShowsGrace}
use Rattle.node_slots.specs.Opening.{IsFreeFrom}
use Rattle.node_slots.specs.Kept.{IsSize, NodeWriterKept, RowsKept, free_numbers, with_empty}
use Rattle.node_slots.proofs.Counting.{times_first, one_if, none_if}

-- tree 0 is first
is_first : (rows : ℕ) → 1 ≤ rows → IsFirst (at_of (first_tree rows).words) first_root
is_first rows some = record {
  named = refl;
  words = get_or-replicate rows 0 empty_row [] (omega arith);
}

-- it has row 0 alone
pub first_rows : (rows : ℕ) → 1 ≤ rows → shown_rows (first_tree rows) ≡ 0 ∷ []
unfolding shown_rows
first_rows rows some = first-rows (at_of (first_tree rows).words) first_root (is_first rows some)

-- and meets the layout
first_shown : (rows slots : ℕ) → 1 ≤ rows → IsShown slots (first_tree rows)
first_shown rows slots some = record {
  tree = record {
    first = λ zeroth. is_first rows some;
    later = λ later. absurd (omega arith);
  };
  low = omega arith;
}

-- row 0 is of tree 0
pub first_has : (rows : ℕ) → 1 ≤ rows → has_row (grace_tree (first_tree rows)) 0 ≡ true
first_has rows some = ap (λ (l : List ℕ). nat_lt 0 (times 0 l)) (first_rows rows some) ∙ lt-ltb 0 (times 0 (0 ∷ []))
    (let one = one_if 0 0 refl in let count = times_first 0 0 [] in omega arith)

-- and no other row
pub first_else : (rows row : ℕ) → 1 ≤ rows → 1 ≤ row → has_row (grace_tree (first_tree rows)) row ≡ false
first_else rows row some other = ap (λ (l : List ℕ). nat_lt 0 (times row l)) (first_rows rows some) ∙ le-ltb 0 (times row (0 ∷ []))
    (let none = none_if 0 row (λ e. omega arith) in let count = times_first row 0 [] in omega arith)

-- the clearings of a new table
clearing : (readers reader : ℕ) → ((clearing_at (replicate readers new_clearing) reader).cleared ≡ 0)
    × ((clearing_at (replicate readers new_clearing) reader).tree ≡ 0)
clearing readers reader = elim (cases_lt reader readers) [
  | inl within ↦ let is = get_or-replicate readers reader new_clearing no_clearing within in
      (ap (λ (c : Clearing). c.cleared) is, ap (λ (c : Clearing). c.tree) is)
  | inr past ↦ let is = get_or_past (replicate readers new_clearing) reader no_clearing (omega (arith, past, length-replicate readers new_clearing))
      in
      (ap (λ (c : Clearing). c.cleared) is, ap (λ (c : Clearing). c.tree) is)
]

-- no row waits
since : (rows row : ℕ) → since_at (replicate {A = ℕ} rows 0) row ≡ 0
since rows row = elim (cases_lt row rows) [
  | inl within ↦ get_or-replicate {A = ℕ} rows row 0 0 within
  | inr past ↦ get_or_past (replicate {A = ℕ} rows 0) row 0 (omega (arith, past, length-replicate {A = ℕ} rows 0))
]

-- every reader is cleared up to tree 0
least_first : (readers : ℕ) → cleared_up_to 0 (replicate readers new_clearing) ≡ 0
least_first zero = refl
least_first (suc readers) = let rest = least_first readers in omega arith

first_writer_facts : (size : Size) → IsSize size → WriterFacts (first_writer_state size)
first_writer_facts size is = record {
  present = record {
    exist = λ row here. elim (cases_lt row 1) [
      | inl zeroth ↦ omega (arith, is.some_rows, zeroth, length-replicate size.rows empty_row)
      | inr other ↦ absurd (let e = sym here ∙ first_else size.rows row is.some_rows other in cc)
    ];
    same = λ row here. refl;
  };
  wide = λ row within. ap (λ (l : List ℕ). length l)
      (get_or-replicate size.rows row empty_row [] (omega (arith, within, length-replicate size.rows empty_row)));
  sized = length-replicate {A = ℕ} size.rows 0 ∙ sym (length-replicate size.rows empty_row);
  since = λ row. omega (arith, since size.rows row);
  before = λ reader. omega (arith, (clearing size.readers reader).0);
  passed = omega arith;
  reached = omega (arith, least_first size.readers);
  free = free_fact (first_writer_state size) (λ reader. omega (arith, (clearing size.readers reader).0))
      (λ reader. omega (arith, (clearing size.readers reader).1));
}

-- the rule of a new table
pub opening_shows : (size : Size) (words : List ℕ) → IsSize size → words ≡ set (replicate {A = ℕ} (word_count size) 0) 0 (packed_root first_root)
    → ShowsGrace size (opening words [] (opened_node_view size 0))
unfolding packed_root unpacked_root
opening_shows size words is are =
    let zeros : List ℕ = replicate {A = ℕ} (word_count size) 0 in
    let mark : ℕ = packed_root first_root in
    let count = length-replicate {A = ℕ} (word_count size) 0 in
    let zero_at : (place : ℕ) → 1 ≤ place → place < word_count size → get_or words place 0 ≡ 0 =
    λ place behind within. ap (λ (l : List ℕ). get_or l place 0) are
    ∙ get_or-set_other zeros 0 place mark 0 (λ e. omega arith)
    ∙ get_or-replicate {A = ℕ} (word_count size) place 0 0 within in
    record {
      known = first_known size 0;
      shows = record {
        stands = record {
          writer_facts = first_writer_facts size is;
          tree = refl;
          shown = first_shown size.rows size.slots is.some_rows;
          width = refl;
          rows = length-replicate size.rows empty_row;
          exist = λ reader within. ap (λ (c : Clearing). c.joined) (get_or-replicate size.readers reader new_clearing no_clearing within);
          made = omega arith;
        };
        words = record {
          sized = ap (λ (l : List ℕ). length l) are ∙ length-set zeros 0 mark ∙ count;
          root = ap (λ (l : List ℕ). unpacked_root (get_or l 0 0)) are ∙ ap unpacked_root (get_or-set_same zeros 0 mark 0 (omega (arith, count)));
          new_pins = λ reader new within. zero_at (pin_place reader) (omega arith) (omega arith);
          rows = λ row place there inside. zero_at (word_place size.readers row place) (omega arith) (omega arith)
              ∙ sym (ap (λ (l : List ℕ). get_or l place 0) (get_or-replicate size.rows row empty_row [] there)
              ∙ get_or-replicate {A = ℕ} 32 place 0 0 inside);
        };
        seats = seat_fits;
        apart = λ i j first second both. absurd (no_reader i first);
      };
    }
  where
    seat_fits : (seat : ℕ) → NodeSeatFits size words (first_known size 0) seat (node_view_at (opened_node_view size 0 ∷ []) seat)
    seat_fits zero = record {
      reader = λ reads. absurd (cc);
      writer = λ _. record { size_is = refl; first = refl; knows = refl };
    }
    seat_fits (suc seat) = record {
      reader = λ reads. absurd (cc);
      writer = λ writes. absurd (cc);
    }

    no_reader : (seat : ℕ) → (node_view_at (opened_node_view size 0 ∷ []) seat).kind ≡ Reads → ⊥
    no_reader zero reads = cc
    no_reader (suc seat) reads = cc

-- the seat of a new table's writer
pub opening_kept : (size : Size) (words : List (List ℕ)) (clearings : List Clearing) (me : Me (Unit {0}) NodeView) → IsSize size
    → me ≡ (opened_node_view size 0, []) → words ≡ [] → clearings ≡ replicate size.readers new_clearing
    → NodeWriterKept size first_root (with_empty size.rows words) clearings me
opening_kept size words clearings me is same none clearings_are =
    let e : size.rows - 0 ≡ size.rows = omega arith in
    let words_are : with_empty size.rows words ≡ replicate size.rows empty_row =
    ap (with_empty size.rows) none ∙ ap (λ n. replicate n empty_row) e in
    subst (NodeWriterKept size first_root (with_empty size.rows words) clearings) (sym same) (record {
      kind = refl;
      empty = refl;
      size_is = refl;
      root_is = refl;
      number_is = refl;
      words_are = sym words_are;
      clearings_are = sym clearings_are;
      fits = record { tree = omega arith; height = omega arith; row = omega arith };
      rows = ap (λ (l : List (List ℕ)). length l) words_are ∙ length-replicate size.rows empty_row;
      wide = λ row within. ap (λ (l : List (List ℕ)). length (get_or l row [])) words_are
          ∙ ap (λ (l : List ℕ). length l) (get_or-replicate size.rows row empty_row []
          (omega (arith, within, ap (λ (l : List (List ℕ)). length l) words_are, length-replicate size.rows empty_row)));
      readers = ap (λ (l : List Clearing). length l) clearings_are ∙ length-replicate size.readers new_clearing;
      since = length-replicate {A = ℕ} size.rows 0;
      reached = omega (arith, ap (cleared_up_to 0) clearings_are, least_first size.readers);
    })

-- the lists of a new table's writer
first_lists : (size : Size) (free : List Row) (firsts : List ℕ) → IsSize size → IsFreeFrom 1 size.rows (free_numbers free)
    → firsts ≡ replicate {A = ℕ} size.rows 0 → RowsKept size.rows free [] firsts (first_writer_state size)
first_lists size free firsts is from are = record {
  sized = ap (λ (l : List ℕ). length l) are ∙ length-replicate {A = ℕ} size.rows 0;
  first = λ row. omega (arith, ap (λ (l : List ℕ). get_or l row 0) are, since size.rows row);
  once = λ row. omega (arith, from.once row);
  inside = λ row some. from.below row (omega (arith, some));
  free_is = λ row some. free_from (first_writer_state size) row (first_else size.rows row is.some_rows (from.inside row some))
      (omega (arith, since size.rows row));
  present = λ row there gone early. elim (cases_lt row 1) [
    | inl zeroth ↦ let e : row ≡ 0 = omega arith in subst (λ r. has_row (grace_tree (first_tree size.rows)) r ≡ true) (sym e)
        (first_has size.rows is.some_rows)
    | inr other ↦ absurd (let some = from.all row other there in omega arith)
  ];
  taken = λ row there gone late. absurd (omega (arith, late, ap (λ (l : List ℕ). get_or l row 0) are, since size.rows row));
  queue = λ place within. absurd (omega arith);
  order = λ place other before within. absurd (omega arith);
}

pub opening_rows : (size key : Size) (free : List Row) (left : List Left) (firsts : List ℕ) (view : NodeView) → IsSize size
    → IsFreeFrom 1 size.rows (free_numbers free)
    → firsts ≡ replicate {A = ℕ} size.rows 0 → left ≡ [] → key ≡ size → view ≡ opened_node_view size 0
    → RowsKept key.rows free left firsts view.known.writer_state
opening_rows size key free left firsts view is from are none same view_is =
    subst (λ (k : Size). RowsKept k.rows free left firsts view.known.writer_state) (sym same)
    (subst (λ (l : List Left). RowsKept size.rows free l firsts view.known.writer_state) (sym none)
    (subst (λ (v : NodeView). RowsKept size.rows free [] firsts v.known.writer_state) (sym view_is) (first_lists size free firsts is from are)))
