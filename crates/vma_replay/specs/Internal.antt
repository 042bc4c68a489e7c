-- What no clause of a public function cites: it follows the code, and may change with it.
pub mod Reading
pub mod Giving
pub mod Families
pub mod Tallies
pub mod CommandLine
