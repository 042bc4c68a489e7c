-- For `open`: a new table keeps its rule.
use Rattle.std.proofs.Common.{ℕ, zero, suc, ◌≡◌, ◌+◌, ◌*◌, ◌∙◌, refl, sym, ap, subst, List, [], ◌∷◌, ◌++◌, length, map, set, replicate, None, arith}
use Rattle.std.proofs.lemmas.List.{length-replicate}
use Rattle.mm_types.specs.declared.call.Entry.{Entry}
use Rattle.mm_types.specs.declared.config.Config.{Config}
use Rattle.lock_core.specs.Core.{free_slot}
use Rattle.lock_core.specs.States.{opening_core}
use Rattle.lock_core.specs.Words.{lines, flat}
use Rattle.lock_core.proofs.Opening.{opening_facts}
use Rattle.atomic_table.specs.Table.{Me, opening}
use Rattle.vma_lock.specs.declared.view.View.{View}
use Rattle.vma_lock.specs.Views.{slot_count, lock_view_at, opened_lock_view}
use Rattle.vma_lock.specs.Words.{padded_slot, sequence_line, table_words}
use Rattle.vma_lock.specs.Rule.{LockSeatFits, ShowsLock}
use Rattle.vma_lock.specs.Kept.{free_mark, LockWriterKept}

zeros : (count more : ℕ) → replicate {A = ℕ} (count + more) 0 ≡ replicate {A = ℕ} count 0 ++ replicate {A = ℕ} more 0
zeros zero more = ap (λ n. replicate {A = ℕ} n 0) (let e : 0 + more ≡ more = omega arith in e)
zeros (suc count) more =
    ap (λ n. replicate {A = ℕ} n 0) (let e : suc count + more ≡ suc (count + more) = omega arith in e) ∙ ap (λ (l : List ℕ). 0 ∷ l) (zeros count more)

-- the words of slots that were never marked are 0
free_lines : (slots : ℕ) → flat (map padded_slot (lines (replicate slots free_slot) (replicate slots 0))) ≡ replicate {A = ℕ} (slots * 8) 0
free_lines zero = ap (λ n. replicate {A = ℕ} n 0) (let e : 0 ≡ 0 * 8 = omega arith in e)
free_lines (suc slots) =
    ap (λ (l : List ℕ). 0 ∷ 0 ∷ 0 ∷ 0 ∷ 0 ∷ 0 ∷ 0 ∷ 0 ∷ l) (free_lines slots)
    ∙ sym (zeros 8 (slots * 8))
    ∙ ap (λ n. replicate {A = ℕ} n 0) (let e : 8 + slots * 8 ≡ suc slots * 8 = omega arith in e)

-- the words of a new table
pub opening_words : (slots : ℕ) → set (replicate {A = ℕ} ((slots + 1) * 8) 0) 0 2 ≡ table_words 2 (replicate slots free_slot) (replicate slots 0)
unfolding table_words
opening_words slots =
    ap (λ n. set (replicate {A = ℕ} n 0) 0 2) (let e : (slots + 1) * 8 ≡ 8 + slots * 8 = omega arith in e)
    ∙ ap (λ (l : List ℕ). set l 0 2) (zeros 8 (slots * 8))
    ∙ ap (λ (l : List ℕ). sequence_line 2 ++ l) (sym (free_lines slots))

-- the mark words of slots that were never marked
pub opening_marks : (slots : ℕ) → replicate {A = ℕ} slots 0 ≡ map free_mark (replicate slots free_slot)
opening_marks zero = refl
opening_marks (suc slots) = ap (λ (l : List ℕ). 0 ∷ l) (opening_marks slots)

-- the first seat, and no other
opening_fits : (config : Config) (seat : ℕ) → LockSeatFits config 2 (replicate (slot_count config) free_slot) [] 0 seat (lock_view_at (opened_lock_view config 0 ∷ []) seat)
opening_fits config zero = record {
  settings = λ spent. refl;
  turn = λ caller is. absurd (cc);
  before = refl;
  joined = refl;
  writer = λ writes. record { first = refl; stage = refl; seen = refl; seq_is = refl; slots_are = refl; made_is = refl };
  free = λ reads. refl;
  traced = tt;
}
opening_fits config (suc seat) = record {
  settings = λ spent. absurd (spent refl);
  turn = λ caller is. absurd (cc);
  before = refl;
  joined = refl;
  writer = λ writes. absurd (cc);
  free = λ reads. refl;
  traced = tt;
}

-- the rule of a new table
pub opening_shows : (config : Config) (words : List ℕ) → words ≡ set (replicate {A = ℕ} ((slot_count config + 1) * 8) 0) 0 2
    → ShowsLock config (opening words [] (opened_lock_view config 0))
opening_shows config words are = record {
  core = opening_core 1 (slot_count config);
  made = 0;
  readers = refl;
  facts = opening_facts config 1 (slot_count config);
  words = are ∙ opening_words (slot_count config);
  slots = length-replicate (slot_count config) free_slot;
  seats = opening_fits config;
  once = λ caller. omega arith;
  few = omega arith;
  most = omega arith;
  room = omega arith;
}

-- the writer's seat of a new table
pub opening_kept : (config key : Config) (marks : List ℕ) (words : ℕ) (me : Me Entry View) → me ≡ (opened_lock_view config 0, []) → key ≡ config
    → marks ≡ replicate {A = ℕ} (slot_count config) 0 → words ≡ (slot_count config + 1) * 8
    → LockWriterKept key 2 marks None words me
opening_kept config key marks words me is same marks_are sized =
    subst (LockWriterKept key 2 marks None words) (sym is) (record {
      kind = refl;
      settings = sym same;
      empty = refl;
      seq_is = refl;
      marks_are = marks_are ∙ opening_marks (slot_count config);
      turn_is = refl;
      sized = omega (arith, sized, ap (λ (l : List ℕ). length l) marks_are, length-replicate {A = ℕ} (slot_count config) 0);
      counted = refl;
      room = omega arith;
    })
