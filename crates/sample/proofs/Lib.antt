-- The check of the tables (Facts), and what the engine proves of the language (Shown).
pub mod Facts
pub mod Shown
