pub mod NodeLayout
