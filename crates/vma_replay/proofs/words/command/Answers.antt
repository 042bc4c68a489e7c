-- The proof of `command`: it has the two arguments and the settings.
use Rattle.std.proofs.Common.{rules, ap, ap₂, true, codes, Option, Some, None, ◌≡◌, ◌∙◌}
use Rattle.std.specs.Option.{IsSomeAnd}
use Rattle.clap.specs.Simple.{App, app_of, new_app, new_rule, on_top, with_rule}
use Rattle.clap.specs.Walk.{Rule, rule_of}
use Rattle.clap.specs.declared.builder.range.ValueRange.{ValueRange}
use Rattle.vma_replay.specs.Internal.CommandLine.{mode_rule, rest_rule, words_command}
use Rattle.vma_replay.proofs.words.command.Goals as goal

range_is : (range : Option ValueRange) (r : ValueRange) → IsSomeAnd range (λ other. other ≡ r) → range ≡ Some r
range_is (Some other) r same = ap Some same
range_is None r same = absurd same

pub returns : goal.returns
unfolding words_command
returns c =
    let mode_is : rule_of c.required-mode.result ≡ mode_rule = search rules in
    let rest_is : rule_of c.num_args-rest.result ≡ rest_rule =
    ap rule_of c.num_args-rest.ensures.0
    ∙ ap (λ (r : Rule). record r { range = c.num_args-rest.result.num_vals }) c.new-2.ensures.rule
    ∙ ap (λ range. record (new_rule (codes "rest")) { range = range }) (range_is c.num_args-rest.result.num_vals _ c.num_args-rest.ensures.1) in
    let settings : App → App = on_top (λ top. record top { no_binary_name = true; disable_help_flag = true; disable_version_flag = true }) in
    let set_is : app_of c.disable_version_flag.result ≡ settings (new_app (codes "replay")) = search rules in
    c.in_ok-command.ensures.shape (search rules)
    ∙ ap₂ with_rule (c.in_ok-arg.ensures.shape (search rules) ∙ ap₂ with_rule set_is mode_is) rest_is
