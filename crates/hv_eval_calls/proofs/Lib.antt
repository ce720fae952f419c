pub mod EntryLemmas
pub mod ArgumentLemmas
pub mod EnterLemmas
pub mod GivenLemmas
pub mod ArgsLemmas
pub mod CallLemmas
pub mod ChildLemmas
