-- For `load` and `push_line`: a text, line after line.
use Rattle.std.proofs.Common.{◌≡◌, ℕ, suc, ◌+◌, ◌-◌, ◌<◌, ◌≤◌, List, ◌++◌, flat_map, codes, Result, Ok, Err, OnOk, refl, sym, ap, ◌∙◌, append_assoc, arith}
use Rattle.std.proofs.lemmas.List.{append-nil}
use Rattle.mm_types.specs.declared.memory.NoMemory.{NoMemory}
use Rattle.trace_reader.specs.LineTexts.{line_words, text_of_line, line_text}
use Rattle.gen_load.specs.Loads.{next_of, draw_of, drawn_line, lines_after, load_text}

-- three parts that are appended one after the other, unless memory runs out in the last, are a text
pub three_parts : (answer : Result (Unit {0}) NoMemory) → (old first second third text one two three : List ℕ)
    → one ≡ old ++ first → two ≡ one ++ second → OnOk answer (three ≡ two ++ third)
    → text ≡ first ++ (second ++ third) → OnOk answer (three ≡ old ++ text)
three_parts (Ok done) old first second third text one two three is_one is_two is_three is =
    is_three ∙ ap (λ (t : List ℕ). t ++ third) (is_two ∙ ap (λ (t : List ℕ). t ++ second) is_one)
    ∙ (simp append_assoc) ∙ ap (λ (t : List ℕ). old ++ t) (sym is)
three_parts (Err error) old first second third text one two three is_one is_two is_three is = tt

-- the text of a line does not have its number
pub line_text-number : (number draw : ℕ) → line_text (drawn_line number draw) ≡ line_text (drawn_line 0 draw)
unfolding text_of_line line_words
line_text-number number draw = refl

-- the text so far, and the lines that are left after so many
pub record IsLoading (text : List ℕ) (done count last seed : ℕ) : Type 0 where
  pub whole : text ++ flat_map line_text (lines_after (2 + done) (count - done) last) ≡ load_text count seed

-- no line yet
pub loading_none : (text : List ℕ) (count seed : ℕ) → text ≡ codes "vmatrace 1\n" → IsLoading text 0 count seed seed
unfolding load_text
loading_none text count seed header = let all : count - 0 ≡ count = omega arith in record {
  whole = ap (λ (t : List ℕ). t ++ flat_map line_text (lines_after 2 (count - 0) seed)) header
      ∙ ap (λ (n : ℕ). codes "vmatrace 1\n" ++ flat_map line_text (lines_after 2 n seed)) all;
}

first_left : (number left last : ℕ) → flat_map line_text (lines_after number (suc left) last)
    ≡ line_text (drawn_line 0 (draw_of (next_of last))) ++ flat_map line_text (lines_after (number + 1) left (next_of last))
unfolding lines_after
first_left number left last = ap (λ (t : List ℕ). t ++ flat_map line_text (lines_after (number + 1) left (next_of last)))
    (line_text-number number (draw_of (next_of last)))

-- one line more
pub loading_more : (text new : List ℕ) (done count last next seed : ℕ) → IsLoading text done count last seed → done < count
    → next ≡ next_of last → new ≡ text ++ line_text (drawn_line 0 (draw_of next)) → IsLoading new (done + 1) count next seed
loading_more text new done count last next seed so_far below is_next adds =
    let left = count - (done + 1) in
    let one : count - done ≡ suc left = omega arith in
    let number : 2 + done + 1 ≡ 2 + (done + 1) = omega arith in
    let rest : flat_map line_text (lines_after (2 + done) (count - done) last)
    ≡ line_text (drawn_line 0 (draw_of (next_of last))) ++ flat_map line_text (lines_after (2 + (done + 1)) left (next_of last)) =
    ap (λ (n : ℕ). flat_map line_text (lines_after (2 + done) n last)) one ∙ first_left (2 + done) left last
    ∙ ap (λ (n : ℕ). line_text (drawn_line 0 (draw_of (next_of last))) ++ flat_map line_text (lines_after n left (next_of last))) number in
    record {
      whole = ap (λ (t : List ℕ). t ++ flat_map line_text (lines_after (2 + (done + 1)) left next)) adds
          ∙ append_assoc text (line_text (drawn_line 0 (draw_of next))) (flat_map line_text (lines_after (2 + (done + 1)) left next))
          ∙ ap (λ (x : ℕ). text ++ (line_text (drawn_line 0 (draw_of x)) ++ flat_map line_text (lines_after (2 + (done + 1)) left x))) is_next
          ∙ ap (λ (t : List ℕ). text ++ t) (sym rest)
          ∙ so_far.whole;
    }

-- all lines
pub loading_all : (text : List ℕ) (done count last seed : ℕ) → IsLoading text done count last seed → count ≤ done
    → text ≡ load_text count seed
unfolding lines_after
loading_all text done count last seed so_far past =
    let none : count - done ≡ 0 = omega arith in
    sym (append-nil text)
    ∙ ap (λ (n : ℕ). text ++ flat_map line_text (lines_after (2 + done) n last)) (sym none)
    ∙ so_far.whole
