pub mod Conformance
