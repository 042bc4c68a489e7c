-- fork(2): kernel/fork.c, mm/rmap.c.
use Rattle.std.specs.Prelude.{ℕ, ◌+◌, ◌-◌, true, ◌&&◌, List, [], ◌∷◌, length, option_map}
use Rattle.std.specs.List.{list_any}
use Rattle.linux_rules.specs.declared.area.Vma.{Vma}
use Rattle.linux_rules.specs.declared.errors.TheConstants.{ENOMEM}
use Rattle.linux_rules.specs.declared.kernel.Kernel.{Kernel}
use Rattle.linux_rules.specs.Accounts.{lacks_memory}
use Rattle.linux_rules.specs.Doing.{LinuxSpace, Doing, ◌>>=◌, ◌>>◌, done, refuse_if, areas_now}

-- anon_vma_fork: an area that has an anon_vma gets one of its own, and its chain is no longer singular
abbrev pub forked_from : ℕ → List Vma → List Vma
forked_from number [] = []
forked_from number (vma ∷ areas) = record vma { anon = option_map (λ anon. record { number = number; forked = true }) vma.anon } ∷ forked_from (number + 1) areas

-- dup_mmap: the address space of the child
unfoldable pub child_space : LinuxSpace → LinuxSpace
child_space space = record space { areas = forked_from 0 space.areas; anons = length space.areas }

-- dup_mmap: charges each accounted area anew, or fails
unfoldable pub fork : Kernel → Doing Unit
fork kernel = do
  areas ← areas_now
  refuse_if (list_any (λ vma. vma.flags.account && lacks_memory kernel (vma.hi - vma.lo)) areas) ENOMEM
  done tt
