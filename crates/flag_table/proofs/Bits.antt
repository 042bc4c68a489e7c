-- For `read_words` and `print_bits`: the bits of rows together, where each row has one bit.
use Rattle.std.proofs.Common.{ℕ, ◌*◌, ◌^◌, ◌<◌, ◌≡◌, ◌∙◌, sym, ap, refl, subst, suc, zero, Bool, true, false, not, cond, ◌||◌, List, [], ◌∷◌, ◌++◌, nat_eq, bit_and, bit_or, All, Contains, ⊎_elim, arith}
use Rattle.std.specs.List.{list_any}
use Rattle.std.specs.Int.{bit_at}
use Rattle.std.specs.Int.Bits.{and_self, or_self, or_zero_r}
use Rattle.std.proofs.lemmas.Bool.{cases_eq, eq-eqb, ne_eqb}
use Rattle.std.proofs.lemmas.Bool.Decides.{nat_tests}
use Rattle.std.proofs.lemmas.List.Elements.{All-head, All-tail}
use Rattle.std.proofs.lemmas.Nat.{and_comm, or_comm, pow_apart}
use Rattle.std.proofs.lemmas.Nat.Bits.{bit_at_and, bit_at_or, bit_at-lt, and_pow, same_from_bits}
use Rattle.flag_table.specs.Tables.{Row, bits_of}
use Rattle.mm_types.specs.Flags.{has_flag}
use Rattle.flag_table.specs.Printing.{rows_with}
use Rattle.flag_table.specs.Laws.{IsOneBit}

-- `&` over `|`, on either side
and-or : (a b c : ℕ) → bit_and c (bit_or a b) ≡ bit_or (bit_and c a) (bit_and c b)
and-or a b c = same_from_bits _ _ (λ i. omega (
  arith,
  bit_at_and c (bit_or a b) i,
  bit_at_or a b i,
  bit_at_or (bit_and c a)
      (bit_and c b) i,
  bit_at_and c a i,
  bit_at_and c b i,
))

or-and : (a b c : ℕ) → bit_and (bit_or a b) c ≡ bit_or (bit_and a c) (bit_and b c)
or-and a b c = same_from_bits _ _ (λ i. omega (
  arith,
  bit_at_and (bit_or a b) c i,
  bit_at_or a b i,
  bit_at_or (bit_and a c)
      (bit_and b c) i,
  bit_at_and a c i,
  bit_at_and b c i,
))

or-assoc : (a b c : ℕ) → bit_or a (bit_or b c) ≡ bit_or (bit_or a b) c
or-assoc a b c = same_from_bits _ _ (λ i. omega
    (arith, bit_at_or a (bit_or b c) i, bit_at_or b c i, bit_at_or (bit_or a b) c i, bit_at_or a b i))

-- what lies within a number lies within that number with more bits
within-or : (a b c : ℕ) → bit_and a c ≡ a → bit_and a (bit_or b c) ≡ a
within-or a b c within = same_from_bits _ _
    (λ i. let e : bit_at (bit_and a c) i ≡ bit_at a i = ap (λ n. bit_at n i) within in
    omega (arith, bit_at_and a (bit_or b c) i, bit_at_or b c i, bit_at_and a c i, e))

within-self : (a b : ℕ) → bit_and a (bit_or a b) ≡ a
within-self a b = same_from_bits _ _ (λ i. omega (arith, bit_at_and a (bit_or a b) i, bit_at_or a b i))

itself : (n : ℕ) → n ≡ cond (not (nat_eq n 0)) n 0
itself n = grind (arith, nat_tests)

none_or_one : (m times bit : ℕ) → times < 2 → m ≡ times * bit → m ≡ cond (not (nat_eq m 0)) bit 0
none_or_one m zero bit below is = let none : m ≡ 0 = omega arith in rw none refl
none_or_one m (suc zero) bit below is = let one : m ≡ bit = omega arith in rw one (itself bit)
none_or_one m (suc (suc times)) bit below is = absurd (omega arith)

-- one bit of a number is that bit or nothing
pub and-one_bit : (n bit : ℕ) → IsOneBit bit → bit_and n bit ≡ cond (not (nat_eq (bit_and n bit) 0)) bit 0
and-one_bit n bit (k, is) = none_or_one (bit_and n bit) (bit_at n k) bit (bit_at-lt n k)
    (ap (bit_and n) is ∙ and_pow n k ∙ ap (λ m. bit_at n k * m) (sym is))

-- two different bits have nothing in common
one_bits : (a b : ℕ) → IsOneBit a → IsOneBit b → bit_and a b ≡ cond (nat_eq a b) b 0
one_bits a b (j, a_is) (k, b_is) = ⊎_elim
    (λ same. let test : nat_eq a b ≡ true = eq-eqb a b same in rw (test, same) (and_self b))
    (λ differ. let test : nat_eq a b ≡ false = ne_eqb a b differ in
    rw (test, a_is, b_is) (pow_apart j k (λ e. differ (a_is ∙ ap (λ n. 2 ^ n) e ∙ sym b_is))))
    (cases_eq a b)

pub bits_of-push : (rows : List Row) (row : Row) → bits_of (rows ++ row ∷ []) ≡ bit_or (bits_of rows) row.bit
bits_of-push [] row = or_comm row.bit 0
bits_of-push (first ∷ rows) row = ap (bit_or first.bit) (bits_of-push rows row)
    ∙ or-assoc first.bit (bits_of rows) row.bit

or_conds : (s t : Bool) (bit : ℕ) → bit_or (cond s bit 0) (cond t bit 0) ≡ cond (s || t) bit 0
or_conds true true bit = or_self bit
or_conds true false bit = or_zero_r bit
or_conds false t bit = refl

-- a bit is among those of some rows where one of the rows has it
pub bits_of-and : (bit : ℕ) → IsOneBit bit → (rows : List Row) → All (λ row. IsOneBit row.bit) rows
    → bit_and (bits_of rows) bit ≡ cond (list_any (λ row. nat_eq row.bit bit) rows) bit 0
bits_of-and bit one [] single = refl
bits_of-and bit one (row ∷ rows) single =
    let here = one_bits row.bit bit (All-head (λ (r : Row). IsOneBit r.bit) row rows single) one in
    let there = bits_of-and bit one rows (All-tail (λ (r : Row). IsOneBit r.bit) row rows single) in
    or-and row.bit (bits_of rows) bit ∙ ap (λ n. bit_or n (bit_and (bits_of rows) bit)) here
    ∙ ap (bit_or (cond (nat_eq row.bit bit) bit 0)) there
    ∙ or_conds (nat_eq row.bit bit) (list_any (λ row. nat_eq row.bit bit) rows) bit

bits_of-cond : (test : Bool) (row : Row) (rows : List Row) → bits_of (cond test (row ∷ rows) rows)
    ≡ bit_or (cond test row.bit 0) (bits_of rows)
bits_of-cond true row rows = refl
bits_of-cond false row rows = refl

-- the rows whose bits are there have those of the bits that have rows
pub bits_of-filter : (bits : ℕ) (rows : List Row) → All (λ row. IsOneBit row.bit) rows
    → bits_of (rows_with bits rows) ≡ bit_and bits (bits_of rows)
bits_of-filter bits [] single = and_comm 0 bits
bits_of-filter bits (row ∷ rows) single =
    let here = and-one_bit bits row.bit (All-head (λ (r : Row). IsOneBit r.bit) row rows single) in
    let there = bits_of-filter bits rows (All-tail (λ (r : Row). IsOneBit r.bit) row rows single) in
    bits_of-cond (has_flag bits row.bit) row (rows_with bits rows)
    ∙ ap (bit_or (cond (has_flag bits row.bit) row.bit 0)) there
    ∙ ap (λ n. bit_or n (bit_and bits (bits_of rows))) (sym here) ∙ sym (and-or row.bit (bits_of rows) bits)

-- the bit of a row is among those of a list that has the row
and-Contains : (rows : List Row) (row : Row) → Contains rows row → bit_and row.bit (bits_of rows) ≡ row.bit
and-Contains [] row (k, below, is) = absurd (omega arith)
and-Contains (first ∷ rows) row (zero, below, is) =
    let P : Row → Type 0 = λ r. bit_and r.bit (bit_or first.bit (bits_of rows)) ≡ r.bit in
    subst P is (within-self first.bit (bits_of rows))
and-Contains (first ∷ rows) row (suc k, below, is) = within-or row.bit first.bit (bits_of rows)
    (and-Contains rows row (k, omega arith, is))

-- and the bits of several are
pub bits_of-within : (rows named : List Row) → All (Contains rows) named → bit_and (bits_of named) (bits_of rows)
    ≡ bits_of named
bits_of-within rows [] inside = refl
bits_of-within rows (row ∷ named) inside =
    let here = and-Contains rows row (All-head (Contains rows) row named inside) in
    let there = bits_of-within rows named (All-tail (Contains rows) row named inside) in
    or-and row.bit (bits_of named) (bits_of rows) ∙ ap (λ n. bit_or n (bit_and (bits_of named) (bits_of rows))) here
    ∙ ap (bit_or row.bit) there
