-- For the law `tables_are_sound`: the three tables are sound.
use Rattle.std.proofs.Common.{◌<◌, ◌^◌, ◌≡◌, ◌≢◌, Bool, true, false, not, length, refl, nat_eq, nat_lt, bytes_eq}
use Rattle.std.specs.List.{list_all, list_any, range_with_len}
use Rattle.std.proofs.lemmas.Bool.{not-true, eqb-true, eqb-false, ltb-true}
use Rattle.std.proofs.lemmas.Bool.Decides.{not_from_Decides}
use Rattle.std.proofs.lemmas.List.Folds.{Any-from_list_any}
use Rattle.std.proofs.lemmas.Slice.Eq.{bytes_eq-Decides}
use Rattle.flag_table.specs.Tables.{Row, FlagNames, prot_flags, map_flags, mremap_flags}
use Rattle.flag_table.specs.Kinds.{table_of_kind}
use Rattle.flag_table.specs.Reading.{is_zero}
use Rattle.flag_table.specs.Laws.{IsSoundTable, IsOneBit, has_bar}
use Rattle.flag_table.specs.declared.kind.Kind.{Kind}
use Rattle.flag_table.specs.declared.kind.Kind.TheVariants.{Prot, Map, Mremap}
use Rattle.flag_table.proofs.Pairs.{All-from_test, AllPairs-from_test, pairs_pass}

-- the tests of a table
abbrev other_name : Row → Row → Bool
other_name a b = not (bytes_eq a.name b.name)

abbrev other_bit : Row → Row → Bool
other_bit a b = not (nat_eq a.bit b.bit)

abbrev one_bit : Row → Bool
one_bit row = list_any (λ k. nat_eq row.bit (2 ^ k)) (range_with_len 0 32)

-- a table that passes the tests is sound
sound_by_tests : (table : FlagNames) → pairs_pass other_name table.rows ≡ true → pairs_pass other_bit table.rows ≡ true
    → list_all one_bit table.rows ≡ true → list_all (λ row. nat_lt 0 (length row.name)) table.rows ≡ true
    → list_all (λ row. not (has_bar row.name)) table.rows ≡ true
    → list_all (λ row. not (is_zero table row.name)) table.rows ≡ true
    → has_bar table.zero ≡ false → IsSoundTable table
sound_by_tests table names bits single some_byte no_bar no_zero zero = record {
  names = AllPairs-from_test (λ a b. a.name ≢ b.name) other_name
      (λ a b h. not_from_Decides (bytes_eq a.name b.name) (bytes_eq-Decides a.name b.name) (not-true _ h)) table.rows
      names;
  bits = AllPairs-from_test (λ a b. a.bit ≢ b.bit) other_bit
      (λ a b h. eqb-false a.bit b.bit (not-true _ h)) table.rows bits;
  single = All-from_test (λ row. IsOneBit row.bit) one_bit
      (λ row h. let found = Any-from_list_any (λ k. nat_eq row.bit (2 ^ k)) (range_with_len 0 32) h in
      (found.1, eqb-true _ _ found.4)) table.rows single;
  some_byte = All-from_test (λ row. 0 < length row.name) (λ row. nat_lt 0 (length row.name))
      (λ row h. ltb-true _ _ h) table.rows some_byte;
  no_bar = All-from_test (λ row. has_bar row.name ≡ false) (λ row. not (has_bar row.name))
      (λ row h. not-true _ h) table.rows no_bar;
  no_zero = All-from_test (λ row. is_zero table row.name ≡ false) (λ row. not (is_zero table row.name))
      (λ row h. not-true _ h) table.rows no_zero;
  zero = zero;
}

pub prot_is_sound : IsSoundTable prot_flags
unfolding prot_flags is_zero
prot_is_sound = sound_by_tests prot_flags refl refl refl refl refl refl refl

pub map_is_sound : IsSoundTable map_flags
unfolding map_flags is_zero
map_is_sound = sound_by_tests map_flags refl refl refl refl refl refl refl

pub mremap_is_sound : IsSoundTable mremap_flags
unfolding mremap_flags is_zero
mremap_is_sound = sound_by_tests mremap_flags refl refl refl refl refl refl refl

-- the table of each kind
pub table_of-sound : (kind : Kind) → IsSoundTable (table_of_kind kind)
table_of-sound Prot = prot_is_sound
table_of-sound Map = map_is_sound
table_of-sound Mremap = mremap_is_sound
