-- What no clause of a public function cites: what the test of both tables says of them.
pub mod Leaves
pub mod Small
pub mod Benches
