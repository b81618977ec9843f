mod Found
mod Edits
mod States
mod RowViews
mod Numbers
