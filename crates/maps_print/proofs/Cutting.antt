-- For `push_trimmed`: the line of an area ends with a newline, and is cut before the spaces that stand before it.
use Rattle.std.proofs.Common.{◌≡◌, ℕ, ◌+◌, ◌-◌, ◌≤◌, ◌<◌, List, [], ◌∷◌, ◌++◌, length, take, drop, set, codes, nat_eq, subst, append_assoc, take-append-drop, sym, ap, ◌∙◌, arith, length-append}
use Rattle.std.proofs.Math.Seq.{take-append_seam, take-append-add, drop-append_seam}
use Rattle.std.proofs.lemmas.List.{take_more_set, length-take}
use Rattle.std.specs.List.{suffix_len}
use Rattle.std.specs.Str.{byte}
use Rattle.mm_types.specs.declared.area.Record.{Record}
use Rattle.mm_types.specs.declared.files.FileRow.{FileRow}
use Rattle.mm_types.specs.MapsText.{backing, front_text, name_text, area_text}
use Rattle.maps_print.specs.Trimmed.{trimmed_line, without_spaces_after}

-- a line has a byte at least
pub line_some : (files : List FileRow) (area : Record) → 0 < length (area_text files area)
unfolding area_text
line_some files area =
    let front = front_text area (backing files area) in
    let name = name_text (length front) (backing files area).name in
    let whole : length (area_text files area) ≡ length (front ++ name) + 1 = length-append (front ++ name) (codes "\n") in
    omega (arith, whole)

-- a beginning of a beginning is a beginning
front_twice : (j m : ℕ) (text : List ℕ) → take (length (take j (take m text))) text ≡ take j (take m text)
front_twice j m text =
    ap (take (length (take j (take m text)))) (sym (take-append-drop m text)
    ∙ ap (λ front. front ++ drop m text) (sym (take-append-drop j (take m text)))
    ∙ append_assoc (take j (take m text)) (drop j (take m text)) (drop m text))
    ∙ take-append_seam (take j (take m text)) (drop j (take m text) ++ drop m text)

-- a text without the spaces at its end is a beginning of it
cut_is : (text : List ℕ) (m : ℕ) → take (length (without_spaces_after (take m text))) text ≡ without_spaces_after (take m text)
unfolding without_spaces_after
cut_is text m = front_twice (length (take m text) - suffix_len (λ c. nat_eq c (byte " ")) (take m text)) m text

-- and is no longer
pub cut_within : (text : List ℕ) → length (without_spaces_after text) ≤ length text
unfolding without_spaces_after
cut_within text = omega (arith, length-take (length text - suffix_len (λ c. nat_eq c (byte " ")) text) text)

-- the line that was appended, but for its newline
pub line_at_end : (old items line : List ℕ) (start end : ℕ) → items ≡ old ++ line → start ≡ length old → end ≡ length items - 1
    → take (end - start) (drop start items) ≡ take (length line - 1) line
line_at_end old items line start end adds from to =
    let count : end - start ≡ length line - 1 = omega (arith, ap length adds, length-append old line, from, to) in
    ap (λ n. take n (drop start items)) count
    ∙ ap (λ text. take (length line - 1) text) (ap (λ n. drop n items) from ∙ ap (drop (length old)) adds ∙ drop-append_seam old line)

-- the place of the newline is within the text
pub place_within : (files : List FileRow) (area : Record) (old items shown cut : List ℕ) (start end : ℕ) → items ≡ old ++ area_text files area
    → start ≡ length old → end ≡ length items - 1 → shown ≡ take (end - start) (drop start items) → cut ≡ without_spaces_after shown
    → start + length cut < length items
place_within files area old items shown cut start end adds from to is_shown is_cut =
    let some = line_some files area in
    let short : length cut ≤ length shown = subst (λ (text : List ℕ). length text ≤ length shown) (sym is_cut) (cut_within shown) in
    let few : length shown ≤ end - start =
    subst (λ (text : List ℕ). length text ≤ end - start) (sym is_shown) (omega (arith, length-take (end - start) (drop start items))) in
    omega (arith, some, short, few, from, to, ap length adds, length-append old (area_text files area))

-- the line was appended, a newline put behind what is left of it, and the rest cut
pub trimmed : (files : List FileRow) (area : Record) (old items shown cut new : List ℕ) (start end len : ℕ) → items ≡ old ++ area_text files area
    → start ≡ length old → end ≡ length items - 1 → shown ≡ take (end - start) (drop start items) → cut ≡ without_spaces_after shown
    → len ≡ length cut → new ≡ take (start + len + 1) (set items (start + len) (byte "\n")) → new ≡ old ++ trimmed_line files area
unfolding trimmed_line
trimmed files area old items shown cut new start end len adds from to is_shown is_cut is_len is_new =
    let line = area_text files area in
    let body : List ℕ = without_spaces_after (take (length line - 1) line) in
    let left : cut ≡ body = is_cut ∙ ap without_spaces_after (is_shown ∙ line_at_end old items line start end adds from to) in
    let count : len ≡ length body = is_len ∙ ap length left in
    let some = line_some files area in
    let short = cut_within (take (length line - 1) line) in
    let within : start + len < length items =
    omega (arith, some, short, length-take (length line - 1) line, count, from, ap length adds, length-append old line) in
    let place : start + len ≡ length old + length body = omega (arith, from, count) in
    is_new ∙ take_more_set items (start + len) (byte "\n") within
    ∙ ap (λ front. front ++ byte "\n" ∷ []) (ap (λ n. take n items) place ∙ ap (take (length old + length body)) adds
    ∙ take-append-add old line (length body) ∙ ap (λ text. old ++ text) (cut_is line (length line - 1)))
    ∙ append_assoc old body (codes "\n")
