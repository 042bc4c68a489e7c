-- `Kind::bit_ahead`: the row whose name is the first word, or none.
use Rattle.std.proofs.Common.{[], ◌∷◌, ◌∙◌, ap, take, drop, rules}
use Rattle.flag_table.specs.Kinds.{table_of_kind}
use Rattle.flag_table.specs.Reading.{bit_ahead}
use Rattle.flag_table.specs.Tables.{flag, prot_flags, map_flags, mremap_flags}
use Rattle.flag_table.specs.declared.kind.Kind.{Kind}
use Rattle.flag_table.proofs.Begins.{BeginsWithNone, bit_ahead-after, bit_ahead-none}
use Rattle.flag_table.proofs.kind.Kind.bit_ahead.Goals as goal

pub returns-in-Some-after_name-7 : goal.returns-in-Some-after_name-7
unfolding map_flags
returns-in-Some-after_name-7 c =
    let text = c.args.text.now in
    let before = take 4 map_flags.rows in
    let unlike : BeginsWithNone before text = search rules in
    ap (λ (kind : Kind). bit_ahead (table_of_kind kind).rows text) c.in-Map.is
    ∙ bit_ahead-after before (flag "MAP_GROWSDOWN" 256) (drop 5 map_flags.rows) text
    c.in-Some-after_name-7.rest.now unlike c.in-Some-after_name-7.ensures.0 c.in-Some-after_name-7.ensures.1

pub returns-in-Some-after_name-8 : goal.returns-in-Some-after_name-8
unfolding map_flags
returns-in-Some-after_name-8 c =
    let text = c.args.text.now in
    let before = take 5 map_flags.rows in
    let unlike : BeginsWithNone before text = search rules in
    ap (λ (kind : Kind). bit_ahead (table_of_kind kind).rows text) c.in-Map.is
    ∙ bit_ahead-after before (flag "MAP_DENYWRITE" 2048) (drop 6 map_flags.rows) text
    c.in-Some-after_name-8.rest.now unlike c.in-Some-after_name-8.ensures.0 c.in-Some-after_name-8.ensures.1

pub returns-in-Some-after_name-9 : goal.returns-in-Some-after_name-9
unfolding map_flags
returns-in-Some-after_name-9 c =
    let text = c.args.text.now in
    let before = take 6 map_flags.rows in
    let unlike : BeginsWithNone before text = search rules in
    ap (λ (kind : Kind). bit_ahead (table_of_kind kind).rows text) c.in-Map.is
    ∙ bit_ahead-after before (flag "MAP_EXECUTABLE" 4096) (drop 7 map_flags.rows) text
    c.in-Some-after_name-9.rest.now unlike c.in-Some-after_name-9.ensures.0 c.in-Some-after_name-9.ensures.1

pub returns-in-Some-after_name-10 : goal.returns-in-Some-after_name-10
unfolding map_flags
returns-in-Some-after_name-10 c =
    let text = c.args.text.now in
    let before = take 7 map_flags.rows in
    let unlike : BeginsWithNone before text = search rules in
    ap (λ (kind : Kind). bit_ahead (table_of_kind kind).rows text) c.in-Map.is
    ∙ bit_ahead-after before (flag "MAP_NORESERVE" 16384) (drop 8 map_flags.rows) text
    c.in-Some-after_name-10.rest.now unlike c.in-Some-after_name-10.ensures.0 c.in-Some-after_name-10.ensures.1

pub returns-in-Some-after_name-11 : goal.returns-in-Some-after_name-11
unfolding map_flags
returns-in-Some-after_name-11 c =
    let text = c.args.text.now in
    let before = take 8 map_flags.rows in
    let unlike : BeginsWithNone before text = search rules in
    ap (λ (kind : Kind). bit_ahead (table_of_kind kind).rows text) c.in-Map.is
    ∙ bit_ahead-after before (flag "MAP_POPULATE" 32768) (drop 9 map_flags.rows) text
    c.in-Some-after_name-11.rest.now unlike c.in-Some-after_name-11.ensures.0 c.in-Some-after_name-11.ensures.1

pub returns-in-Some-after_name-12 : goal.returns-in-Some-after_name-12
unfolding map_flags
returns-in-Some-after_name-12 c =
    let text = c.args.text.now in
    let before = take 9 map_flags.rows in
    let unlike : BeginsWithNone before text = search rules in
    ap (λ (kind : Kind). bit_ahead (table_of_kind kind).rows text) c.in-Map.is
    ∙ bit_ahead-after before (flag "MAP_STACK" 131072) (drop 10 map_flags.rows) text
    c.in-Some-after_name-12.rest.now unlike c.in-Some-after_name-12.ensures.0 c.in-Some-after_name-12.ensures.1

pub returns-in-Some-after_name-13 : goal.returns-in-Some-after_name-13
unfolding map_flags
returns-in-Some-after_name-13 c =
    let text = c.args.text.now in
    let before = take 10 map_flags.rows in
    let unlike : BeginsWithNone before text = search rules in
    ap (λ (kind : Kind). bit_ahead (table_of_kind kind).rows text) c.in-Map.is
    ∙ bit_ahead-after before (flag "MAP_FIXED_NOREPLACE" 1048576) (drop 11 map_flags.rows) text
    c.in-Some-after_name-13.rest.now unlike c.in-Some-after_name-13.ensures.0 c.in-Some-after_name-13.ensures.1

pub returns-in-Some-after_name-14 : goal.returns-in-Some-after_name-14
unfolding mremap_flags
returns-in-Some-after_name-14 c =
    let text = c.args.text.now in
    let before = take 0 mremap_flags.rows in
    let unlike : BeginsWithNone before text = search rules in
    ap (λ (kind : Kind). bit_ahead (table_of_kind kind).rows text) c.in-Mremap.is
    ∙ bit_ahead-after before (flag "MREMAP_MAYMOVE" 1) (drop 1 mremap_flags.rows) text
    c.in-Some-after_name-14.rest.now unlike c.in-Some-after_name-14.ensures.0 c.in-Some-after_name-14.ensures.1

pub returns-in-Some-after_name-15 : goal.returns-in-Some-after_name-15
unfolding mremap_flags
returns-in-Some-after_name-15 c =
    let text = c.args.text.now in
    let before = take 1 mremap_flags.rows in
    let unlike : BeginsWithNone before text = search rules in
    ap (λ (kind : Kind). bit_ahead (table_of_kind kind).rows text) c.in-Mremap.is
    ∙ bit_ahead-after before (flag "MREMAP_FIXED" 2) (drop 2 mremap_flags.rows) text
    c.in-Some-after_name-15.rest.now unlike c.in-Some-after_name-15.ensures.0 c.in-Some-after_name-15.ensures.1

pub returns-in-Some-after_name-16 : goal.returns-in-Some-after_name-16
unfolding mremap_flags
returns-in-Some-after_name-16 c =
    let text = c.args.text.now in
    let before = take 2 mremap_flags.rows in
    let unlike : BeginsWithNone before text = search rules in
    ap (λ (kind : Kind). bit_ahead (table_of_kind kind).rows text) c.in-Mremap.is
    ∙ bit_ahead-after before (flag "MREMAP_DONTUNMAP" 4) (drop 3 mremap_flags.rows) text
    c.in-Some-after_name-16.rest.now unlike c.in-Some-after_name-16.ensures.0 c.in-Some-after_name-16.ensures.1

pub returns-in_default-after_name-2 : goal.returns-in_default-after_name-2
unfolding prot_flags
returns-in_default-after_name-2 c =
    let text = c.args.text.now in
    let unlike : BeginsWithNone prot_flags.rows text = search rules in
    ap (λ (kind : Kind). bit_ahead (table_of_kind kind).rows text) c.in-Prot.is ∙ bit_ahead-none prot_flags.rows text unlike

pub returns-in_default-after_name-13 : goal.returns-in_default-after_name-13
unfolding map_flags
returns-in_default-after_name-13 c =
    let text = c.args.text.now in
    let unlike : BeginsWithNone map_flags.rows text = search rules in
    ap (λ (kind : Kind). bit_ahead (table_of_kind kind).rows text) c.in-Map.is ∙ bit_ahead-none map_flags.rows text unlike

pub returns-in_default-after_name-16 : goal.returns-in_default-after_name-16
unfolding mremap_flags
returns-in_default-after_name-16 c =
    let text = c.args.text.now in
    let unlike : BeginsWithNone mremap_flags.rows text = (c.in_default-after_name-14.ensures, (c.in_default-after_name-15.ensures, (c.in_default-after_name-16.ensures, tt))) in
    ap (λ (kind : Kind). bit_ahead (table_of_kind kind).rows text) c.in-Mremap.is ∙ bit_ahead-none mremap_flags.rows text unlike
