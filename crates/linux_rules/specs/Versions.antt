-- Which rules each version has: the table of tools/vmatools/linux/versions.tsv, whose columns are the versions that were run.
use Rattle.std.specs.Prelude.{true, false}
use Rattle.linux_rules.specs.declared.kernel.Rules.{Rules}

-- Linux 6.1.192
abbrev pub linux_6_1 : Rules
linux_6_1 = record {
  unaccounts = false;
  search_has_min = false;
  heap_is_strict = false;
  aligns_anonymous = false;
  replaces_last = false;
  merges_unfaulted = false;
  moves_several = false;
  keeps_copies_apart = true;
  loses_accounts = false;
  has_stale_seal = false;
  has_mseal = false;
  limits_each_mremap = false;
  joins_beside_source = false;
  limits_before_lookup = false;
  loses_written = false;
}

-- Linux 6.12.117
abbrev pub linux_6_12 : Rules
linux_6_12 = record linux_6_1 {
  unaccounts = true;
  search_has_min = true;
  heap_is_strict = true;
  aligns_anonymous = true;
  replaces_last = true;
  has_mseal = true;
  joins_beside_source = true;
}

-- Linux 6.16.12
abbrev pub linux_6_16 : Rules
linux_6_16 = record linux_6_12 { merges_unfaulted = true; keeps_copies_apart = false; loses_accounts = true; limits_before_lookup = true; loses_written = true }

-- Linux 6.17.13
abbrev pub linux_6_17 : Rules
linux_6_17 = record linux_6_16 { moves_several = true; loses_accounts = false; has_stale_seal = true; limits_before_lookup = false }

-- Linux 6.18.15
abbrev pub linux_6_18_15 : Rules
linux_6_18_15 = record linux_6_17 { loses_written = false }

-- Linux 6.18.44
abbrev pub linux_6_18 : Rules
linux_6_18 = record linux_6_18_15 { has_stale_seal = false }

-- Linux 7.2.12
abbrev pub linux_7_2 : Rules
linux_7_2 = record linux_6_18 { keeps_copies_apart = true; limits_each_mremap = true }
