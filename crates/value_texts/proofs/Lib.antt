pub mod ValueList
