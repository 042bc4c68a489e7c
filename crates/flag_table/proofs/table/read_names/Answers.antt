-- For `read_names`: its goals.
use Rattle.std.proofs.Common.{◌∙◌, lit<, Some, None, sym, ap, Err, rules}
use Rattle.std.proofs.lemmas.Str.Pattern.{strip_prefix_char}
use Rattle.flag_table.specs.Kinds.{table_of_kind}
use Rattle.flag_table.specs.declared.error.NameError.TheVariants.{Unknown, Twice}
use Rattle.flag_table.proofs.Ahead.{ahead_start, ahead_end, ahead_more, ahead_shorter, ahead_twice, ahead_unknown}
use Rattle.flag_table.proofs.Sound.{table_of-sound}
use Rattle.flag_table.proofs.table.read_names.Goals as goal

pub returns-then-has_flag : goal.returns-then-has_flag
returns-then-has_flag c =
    ahead_twice (table_of_kind c.args.kind) (table_of-sound c.args.kind) c.args.text.now c.loop-bit.rest.now c.in-Some.after.now
    c.loop-bit.bits c.in-Some.bit c.loop-bit.invariant.1 c.in-Some.ensures (sym c.has_flag.ensures ∙ c.if-has_flag.true)
    ∙ ap (λ word. Err (Twice word)) (sym c.first_word.ensures)

pub loop-bit-smaller : goal.loop-bit-smaller
loop-bit-smaller c =
    ahead_shorter (table_of_kind c.args.kind) (table_of-sound c.args.kind) c.loop-bit.rest.now c.in-Some.after.now
    c.in-Some-strip_prefix.more.now c.in-Some.bit c.in-Some.ensures
    (strip_prefix_char 124 c.in-Some.after.now (Some c.in-Some-strip_prefix.more) c.in-Some-strip_prefix.ensures.cases (lit< tt))

pub loop-bit-init : goal.loop-bit-init
loop-bit-init c = (search rules, ahead_start (table_of_kind c.args.kind).rows c.args.text.now)

pub loop-bit-preserved : goal.loop-bit-preserved
loop-bit-preserved c = (
  search rules,
  ahead_more (table_of_kind c.args.kind) (table_of-sound c.args.kind) c.args.text.now c.loop-bit.rest.now c.in-Some.after.now
      c.in-Some-strip_prefix.more.now c.loop-bit.bits c.in-Some.bit c.loop-bit.invariant.1 c.in-Some.ensures
      (sym c.has_flag.ensures ∙ c.if-has_flag.false)
      (strip_prefix_char 124 c.in-Some.after.now (Some c.in-Some-strip_prefix.more) c.in-Some-strip_prefix.ensures.cases (lit< tt)),
)

pub returns-in-None : goal.returns-in-None
returns-in-None c =
    ahead_end (table_of_kind c.args.kind) (table_of-sound c.args.kind) c.args.text.now c.loop-bit.rest.now c.in-Some.after.now
    c.loop-bit.bits c.in-Some.bit c.loop-bit.invariant.1 c.in-Some.ensures (sym c.has_flag.ensures ∙ c.if-has_flag.false)
    (strip_prefix_char 124 c.in-Some.after.now None c.in-None.ensures.cases (lit< tt))

pub returns : goal.returns
returns c =
    ahead_unknown (table_of_kind c.args.kind).rows c.args.text.now c.loop-bit.rest.now c.loop-bit.bits c.loop-bit.invariant.1
    c.in_default.ensures
    ∙ ap (λ word. Err (Unknown word)) (sym c.first_word-2.ensures)
