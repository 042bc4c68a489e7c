-- The proof of `job_of_matches`: what the getters give is what was found.
use Rattle.std.proofs.Common.{refl, ap, codes, map, List, Option, Some, None, [], Bor, sym, ◌≡◌, ◌∙◌}
use Rattle.std.specs.Prelude.{option_map, unwrap_or}
use Rattle.clap.specs.Matches.{matched_of, raw_values}
use Rattle.clap.specs.Walk.{Text, all_of, first_of, rows_of}
use Rattle.clap.specs.Words.{first_value, found_of}
use Rattle.clap.specs.declared.parser.matches.Found.{Found}
use Rattle.clap.proofs.WalkLemmas.{first_value-rows, raw_values-rows}
use Rattle.vma_replay.specs.Jobs.{named_job}
use Rattle.vma_replay.specs.Internal.CommandLine.{job_of_rows}
use Rattle.vma_replay.proofs.words.job_of_matches.Goals as goal

-- the rest that the getter gives is the rest that was found
rest_read : (f : Found) (rest : Option (Bor (List (Bor Text)))) (none : Bor (List (Bor Text))) → none.now ≡ []
    → option_map (λ s. map (λ v. v.now) s.now) rest ≡ option_map raw_values (matched_of f (codes "rest"))
    → map (λ v. v.now) (unwrap_or rest none).now ≡ unwrap_or (all_of (codes "rest") (rows_of f)) []
rest_read f rest none empty is =
    sym (go rest) ∙ ap (λ values. unwrap_or values []) (is ∙ raw_values-rows f (codes "rest"))
  where
    go : (rest : Option (Bor (List (Bor Text)))) → unwrap_or (option_map (λ s. map (λ v. v.now) s.now) rest) [] ≡ map (λ v. v.now) (unwrap_or rest none).now
    go None = rw empty refl
    go (Some s) = refl

-- and so is the first word
name_read : (f : Found) (name found : Option (Bor Text)) → option_map (λ m. m.now) name ≡ first_value f (codes "mode") → name ≡ found
    → first_of (codes "mode") (rows_of f) ≡ option_map (λ m. m.now) found
name_read f name found is read = sym (is ∙ first_value-rows f (codes "mode")) ∙ ap (option_map (λ m. m.now)) read

pub returns-in_err-name-clause-job : goal.returns-in_err-name-clause-job
unfolding job_of_rows
returns-in_err-name-clause-job c =
    rw (name_read (found_of c.args.matches.now) c.get_str.result None c.get_str.ensures c.in_err-name.was) c.from_residual.ensures

pub returns-clause-job : goal.returns-clause-job
unfolding job_of_rows
returns-clause-job c =
    let rest = ap (λ r. map (λ v. v.now) r.now) c.unwrap_or-rest.ensures
    ∙ rest_read (found_of c.args.matches.now) c.get_strs.result _ refl c.get_strs.ensures in
    rw (name_read (found_of c.args.matches.now) c.get_str.result (Some c.in_ok-name.name) c.get_str.ensures c.in_ok-name.was)
    (c.named_job.ensures.job ∙ ap (named_job c.in_ok-name.name.now) rest)
