-- What no clause of a public function cites: it follows the code, and may change with it.
pub mod Becoming
pub mod Planner
