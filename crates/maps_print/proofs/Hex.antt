-- For `span_part` and `place_part`: the address of a page is its number and three zeros.
use Rattle.std.proofs.Common.{◌≡◌, ℕ, zero, suc, ◌^◌, ◌-◌, ◌*◌, ◌/◌, ◌%◌, ◌<◌, ◌≤◌, ◌==◌, true, false, if◌then◌else◌, List, [], ◌∷◌, ◌++◌, length, append_assoc, sym, ap, ◌∙◌, refl, arith, codes, decimal, length-append, replicate}
use Rattle.std.proofs.Math.Nat.{pow-suc}
use Rattle.std.proofs.lemmas.Bool.Decides.{nat_tests}
use Rattle.std.specs.Fmt.{digits, digits_onto, digit_glyph}
use Rattle.mm_types.specs.MapsText.{Backing, hex, page_text, place_text}

-- what is written after the digits stays there
onto_append : (k n : ℕ) (acc tail : List ℕ)
    → digits_onto k 16 false n (acc ++ tail) ≡ digits_onto k 16 false n acc ++ tail
onto_append zero n acc tail = refl
onto_append (suc k) n acc tail = elim (n / 16 == 0) as (λ b.
    (if b then digit_glyph false (n % 16) ∷ (acc ++ tail) else digits_onto k 16 false (n / 16) (digit_glyph false (n % 16) ∷ (acc ++ tail)))
    ≡ (if b then digit_glyph false (n % 16) ∷ acc else digits_onto k 16 false (n / 16) (digit_glyph false (n % 16) ∷ acc)) ++ tail) [
      | true ↦ refl
      | false ↦ onto_append k (n / 16) (digit_glyph false (n % 16) ∷ acc) tail
    ]

-- sixteen times a number has a zero more
onto_sixteen : (k n : ℕ) (acc : List ℕ) → 0 < n
    → digits_onto (suc k) 16 false (16 * n) acc ≡ digits_onto k 16 false n (48 ∷ acc)
onto_sixteen k n acc some =
    let part : 16 * n / 16 ≡ n = omega arith in
    let rest : 16 * n % 16 ≡ 0 = omega arith in
    let more : (n == 0) ≡ false = grind (arith, nat_tests) in
    rw (part, rest, more) refl

-- a number with few digits has them however many are allowed
onto_enough : (k j n : ℕ) (acc : List ℕ) → k ≤ j → n < 16 ^ suc k
    → digits_onto (suc k) 16 false n acc ≡ digits_onto (suc j) 16 false n acc
onto_enough zero j n acc few small = let part : n / 16 ≡ 0 = omega arith in simp part
onto_enough (suc k) (suc j) n acc few small = let digit = digit_glyph false (n % 16) in
    ap (λ rest. if n / 16 == 0 then digit ∷ acc else rest)
    (onto_enough k j (n / 16) (digit ∷ acc) (omega arith) (let more = pow-suc 16 (suc k) in omega arith))
onto_enough (suc k) zero n acc few small = absurd (omega arith)

-- a page's address is its number with three zeros after it
address_digits : (page : ℕ) → 0 < page → page < 16 ^ 61 → digits 16 false (4096 * page) ≡ digits 16 false page ++ codes "000"
unfolding digits
address_digits page some small =
    let whole : 4096 * page ≡ 16 * (16 * (16 * page)) = omega arith in
    ap (λ address. digits_onto 64 16 false address []) whole
    ∙ onto_sixteen 63 (16 * (16 * page)) [] (omega arith) ∙ onto_sixteen 62 (16 * page) (48 ∷ []) (omega arith)
    ∙ onto_sixteen 61 page (48 ∷ 48 ∷ []) some
    ∙ onto_append 61 page [] (codes "000") ∙ ap (λ text. text ++ codes "000") (onto_enough 60 63 page [] (omega arith) small)

-- where a page that is not the first begins
start_above : (page : ℕ) → 0 < page → page < 16 ^ 61 → page_text page ≡ hex 5 page ++ codes "000"
unfolding page_text hex
start_above page some small = let number = digits 16 false page in
    let zeros : 8 - length (number ++ codes "000") ≡ 5 - length number = simp length-append (omega arith) in
    rw (address_digits page some small) (rw zeros (sym (append_assoc (replicate (5 - length number) 48) number (codes "000"))))

-- where a page begins, in bytes: its number, filled with zeros up to five digits, and three zeros
pub start_parts : (page : ℕ) → page < 16 ^ 61 → page_text page ≡ hex 5 page ++ codes "000"
unfolding page_text hex digits
start_parts zero small = refl
start_parts (suc page) small = start_above (suc page) (omega arith) small

-- nine texts, one after the other, of which the third is two
joined : (x p z d e f h : List ℕ) → ((((((((x ++ p) ++ (z ++ x)) ++ d) ++ e) ++ f) ++ x) ++ h) ++ x)
    ≡ ((x ++ (((((((p ++ z) ++ x) ++ d) ++ e) ++ f) ++ x) ++ h)) ++ x)
joined x p z d e f h = simp append_assoc

-- the parts of a place, one after the other
pub place_joined : (offset major minor inode : ℕ) (backing : Backing) → offset < 2 ^ 64 → major ≡ backing.major → minor ≡ backing.minor → inode ≡ backing.inode
    → ((((((((codes " " ++ hex 5 offset) ++ codes "000 ") ++ hex 2 major) ++ codes ":") ++ hex 2 minor) ++ codes " ") ++ decimal inode) ++ codes " ")
    ≡ (codes " " ++ place_text offset backing) ++ codes " "
unfolding place_text
place_joined offset major minor inode backing small major_is minor_is inode_is =
    rw (major_is, minor_is, inode_is)
    (joined (codes " ") (hex 5 offset) (codes "000") (hex 2 backing.major) (codes ":") (hex 2 backing.minor) (decimal backing.inode)
    ∙ ap (λ start. (codes " " ++ ((((((start ++ codes " ") ++ hex 2 backing.major) ++ codes ":") ++ hex 2 backing.minor) ++ codes " ") ++ decimal backing.inode)) ++ codes " ")
    (sym (start_parts offset (omega arith))))
