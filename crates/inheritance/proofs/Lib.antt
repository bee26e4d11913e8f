mod ChangeLaws
pub mod LineLaws
mod CutLaws
mod QueryLaws
mod ScopedTableLaws
mod CycleLaws
mod WalkLaws
mod CyclesFound
mod TopologicalOrderLaws
mod TopologicalOrderFound
mod WrittenLists
pub mod Results
