-- handed on: the copying meaning and its nodes
pub use Rattle.hv_sem_copying.specs.Copying
pub use Rattle.hv_sem_copying.specs.Evaluate
pub use Rattle.hv_sem_copying.specs.Meaning
pub use Rattle.hv_sem_copying.specs.Node
pub mod Kinds
