-- Syntactic dependencies (RISC-V Unprivileged ISA 20191213, chapter "RVWMO Memory Consistency Model", section
-- "Syntactic Dependencies") between the steps of a run, which are known by their place in it.
pub use Rattle.fs_model.specs.Operations.{writes, depends_within, depends, address_depends, data_depends, control_depends, address_dependency, data_dependency, control_dependency, address_between}
