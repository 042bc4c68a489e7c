-- Serves `in_order`: what a pass did after the first lines.
use Rattle.std.proofs.Common.{ℕ, ◌≡◌, ◌+◌, ◌<◌, ◌≤◌, ◌∙◌, refl, sym, ap, subst, List, [], ◌∷◌, ◌++◌, length, take, get_or, arith}
use Rattle.std.proofs.lemmas.List.{take_more, length-append, map-append, append-nil}
use Rattle.trace_reader.specs.declared.trace.Op.{Op}
use Rattle.trace_reader.specs.declared.trace.TraceLine.{TraceLine}
use Rattle.history.specs.declared.items.Item.{Item}
use Rattle.history.specs.Histories.{read_as, AsksItself, AskThemselves}
use Rattle.history.specs.Runs.{ops_of, asked}
use Rattle.history.proofs.Steps.{ops_more}
use Rattle.fault_path.specs.Passes.{PassView, IsLater}
use Rattle.vma_drive.specs.Hearing.{own_by, done_by, Grew, GrewNone, DoesItem}
use Rattle.vma_drive.proofs.Operations.{later_on, no_later}
use Rattle.vma_drive.proofs.Growing.{grew_on, grew_still}

-- the first lines were run
pub record RanTo (old new : PassView) (lines : List TraceLine) (count : ℕ) : Type 0 where
  pub later : IsLater old new
  pub more : List Item
  pub many : length more ≡ count
  pub grew : Grew old new more
  pub ops : ops_of more ≡ asked (take count lines)
  pub left : new.left + count ≡ old.left

pub ran_none : (pass : PassView) (lines : List TraceLine) → RanTo pass pass lines 0
unfolding ops_of
ran_none pass lines = record {
  later = no_later pass;
  more = [];
  many = refl;
  grew = grew_still pass;
  ops = refl;
  left = omega arith;
}

pub ran_more : (old mid new : PassView) (lines : List TraceLine) (count : ℕ) (d : TraceLine) → RanTo old mid lines count → IsLater mid new
    → count < length lines → DoesItem mid new (get_or lines count d).op → RanTo old new lines (count + 1)
ran_more old mid new lines count d ran later within does =
    let line : TraceLine = get_or lines count d in
    record {
      later = later_on old mid new ran.later later;
      more = ran.more ++ does.item ∷ [];
      many = omega (arith, length-append ran.more (does.item ∷ []), ran.many);
      grew = grew_on old mid new ran.more (does.item ∷ []) ran.later ran.grew does.grew;
      ops = ops_more ran.more does.item ∙ ap (λ (op : Op). ops_of ran.more ++ op ∷ []) does.asked
          ∙ ap (λ (l : List Op). l ++ read_as line.op ∷ []) ran.ops
          ∙ sym (map-append (λ (l : TraceLine). read_as l.op) (take count lines) (line ∷ []))
          ∙ ap asked (sym (take_more lines count d within));
      left = omega (arith, ran.left, does.left);
    }

-- as the lines are shown
pub ran_shown : (old mid new : PassView) (shown lines : List TraceLine) (count : ℕ) (d : TraceLine) → RanTo old mid lines count → IsLater mid new
    → shown ≡ lines → count < length shown → DoesItem mid new (get_or shown count d).op → RanTo old new lines (count + 1)
ran_shown old mid new shown lines count d ran later same within does =
    ran_more old mid new lines count d ran later (subst (λ (l : List TraceLine). count < length l) same within)
    (subst (λ (l : List TraceLine). DoesItem mid new (get_or l count d).op) same does)

-- and then no more
pub ran_no_more : (old mid new : PassView) (lines : List TraceLine) (count : ℕ) → RanTo old mid lines count → IsLater mid new → GrewNone mid new
    → RanTo old new lines count
ran_no_more old mid new lines count ran later none = record {
  later = later_on old mid new ran.later later;
  more = ran.more;
  many = ran.many;
  grew = record {
    own = none.grew.own ∙ append-nil (own_by mid) ∙ ran.grew.own;
    late = ran.grew.late;
    grown = λ before. none.grew.grown (ran.grew.grown before);
  };
  ops = ran.ops;
  left = omega (arith, ran.left, none.left);
}

-- the next line asks for itself
pub asks_shown : (shown lines : List TraceLine) (count : ℕ) (d : TraceLine) → AskThemselves lines → shown ≡ lines → count < length shown
    → AsksItself (get_or shown count d).op
asks_shown shown lines count d asks same within =
    (subst (λ (l : List TraceLine). AskThemselves l) (sym same) asks) count d within
