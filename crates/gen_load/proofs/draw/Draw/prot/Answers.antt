-- The proof of `prot`: the names of each of the eight protections.
use Rattle.std.proofs.Common.{◌≡◌, ℕ, arith, sym, ap}
use Rattle.flag_table.specs.Printing.{printed}
use Rattle.flag_table.specs.Tables.{prot_flags}
use Rattle.trace_reader.specs.Fields.{prot_of_bits}
use Rattle.trace_reader.specs.LineTexts.{prot_word}
use Rattle.gen_load.specs.Loads.{prot_bits_of}
use Rattle.gen_load.proofs.draw.Draw.prot.Goals as goal

pub returns-in-0 : goal.returns-in-0
unfolding prot_word prot_of_bits printed prot_flags
returns-in-0 c = sym (ap (λ (bits : ℕ). prot_word (prot_of_bits bits)) c.in-0.is)

pub returns-in-1 : goal.returns-in-1
unfolding prot_word prot_of_bits printed prot_flags
returns-in-1 c = sym (ap (λ (bits : ℕ). prot_word (prot_of_bits bits)) c.in-1.is)

pub returns-in-2 : goal.returns-in-2
unfolding prot_word prot_of_bits printed prot_flags
returns-in-2 c = sym (ap (λ (bits : ℕ). prot_word (prot_of_bits bits)) c.in-2.is)

pub returns-in-3 : goal.returns-in-3
unfolding prot_word prot_of_bits printed prot_flags
returns-in-3 c = sym (ap (λ (bits : ℕ). prot_word (prot_of_bits bits)) c.in-3.is)

pub returns-in-4 : goal.returns-in-4
unfolding prot_word prot_of_bits printed prot_flags
returns-in-4 c = sym (ap (λ (bits : ℕ). prot_word (prot_of_bits bits)) c.in-4.is)

pub returns-in-5 : goal.returns-in-5
unfolding prot_word prot_of_bits printed prot_flags
returns-in-5 c = sym (ap (λ (bits : ℕ). prot_word (prot_of_bits bits)) c.in-5.is)

pub returns-in-6 : goal.returns-in-6
unfolding prot_word prot_of_bits printed prot_flags
returns-in-6 c = sym (ap (λ (bits : ℕ). prot_word (prot_of_bits bits)) c.in-6.is)

pub returns-in_default : goal.returns-in_default
unfolding prot_word prot_of_bits printed prot_flags
returns-in_default c = let last : prot_bits_of c.args.self.0 ≡ 7 = omega arith in
    sym (ap (λ (bits : ℕ). prot_word (prot_of_bits bits)) last)
