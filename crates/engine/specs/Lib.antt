-- The engine: a grammar as data, its reading, its rule, and one theorem that joins them. Nothing here knows of any one language.
--
-- 1. A LAYOUT (Layout) is a small piece of data that says how a kind of node is laid out: moves over bytes, children of a class, options,
--    repetitions, and the flag with which the node ends. A LANGUAGE is a layout for each kind, with what its moves mean, which kind the
--    bytes at a place call for, which operator follows a place, how tightly each kind binds, and what is handed down to children: an
--    attribute, as the depth or whether a line end may stand.
-- 2. The READING (Engine, Layout, Source) goes over a source from the left by the layouts. It comes to a tree, which is flattened to a table
--    with the children first (Base, Flat), or to the first refusal that it meets, with its number and place. It computes.
-- 3. The RULE (Rule) speaks of one node: from its record, its children's records and its attribute, the layout of its kind, laid over the
--    children that it has, ends where the node ends; each child binds as tightly as its place asks. It knows of no reading. It is stated at
--    every node of a tree, and at every index of a table that may come from anyone (Source: `Holds`).
-- 4. The THEOREM (Theorem): the rule holds at every node of a table exactly when the reading of the source gives that very table. It is
--    proved once, for every language whose tables pass a check that the prover computes (Tables, Progress). With it: a source has at most
--    one table; the reading answers every source and does not depend on fuel; acceptance and refusal have derivations with no fuel; a table
--    from anyone lists trees or is not well shaped; and precedence, over any list of operators with levels (Levels).
-- 5. Handed: a test that a parent makes over its children, as of equal keys, may stand at the parent instead of at the child.
--
-- Read down to `Theorem`: these files hold definitions and statements only. A file `XLaws`, `Total` or `Fails` holds proofs; nothing in them
-- need be believed, for the prover has checked them.
--
-- For an instance: `Finite` turns tests over lists of kinds into what `Tables` and `Progress` ask. For code: `Way` has one rule for each
-- constructor of a layout, made and refused, that compose from the left as a reader reads; `Check`, `Lands`, `Forest` and `Items` are the
-- rule as a checker meets it, which walks a table from the right.

-- the text
pub mod Base
pub mod Flat
pub mod Engine
pub mod Layout
pub mod Rule
pub mod Tables
pub mod Progress
pub mod Source
pub mod Levels
pub mod Handed
pub mod Theorem
-- proofs
pub mod BaseLaws
pub mod FlatLaws
pub mod GrowLaws
pub mod EngineLaws
pub mod Total
pub mod Fails
pub mod LayoutLaws
pub mod ProgressLaws
pub mod SourceLaws
pub mod LevelsLaws
pub mod HandedLaws
-- for an instance
pub mod Finite
-- for code
pub mod Way
pub mod Check
pub mod Lands
pub mod Forest
pub mod Items
