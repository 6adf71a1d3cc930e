-- A language as an instance of the engine: its tables (Lang), examples (Table), and the published rule (Posts). In proofs/ stand the check of the
-- tables (Facts) and what the engine proves of the language (Shown).
pub mod Lang
pub mod Table
pub mod Posts
pub mod Names
